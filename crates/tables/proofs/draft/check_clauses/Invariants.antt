-- What lasts from turn to turn in checking the clauses one by one.
use Rattle.std.proofs.Common.{◌≡◌}
use Rattle.std.specs.Iterator.Adapters.{zip_first, zip_second}
use Rattle.std.specs.Slice.Iter.{iter_rest}
use Rattle.tables.specs.Adding.{clauses_decline}
use Rattle.tables.proofs.draft.check_clauses.Given as goal

-- the clauses checked so far are in order, so the rest decides
abbrev pub invariant-loop-range : goal.invariant-loop-range
invariant-loop-range l = clauses_decline l.ranges l.clauses ≡ clauses_decline (iter_rest (zip_first l.range-iterator)) (iter_rest (zip_second l.range-iterator))
