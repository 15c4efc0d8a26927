-- The loop ends where no range or no clause is left.
use Rattle.std.proofs.Common.{sym, ◌∙◌}
use Rattle.std.proofs.lemmas.Slice.Zip.{either_empty_from_Zip}
use Rattle.tables.proofs.Adding.{all_checked}
use Rattle.tables.proofs.draft.check_clauses.Goals as goal

pub returns : goal.returns
returns c = sym (c.loop-range.invariant ∙ all_checked _ _ (either_empty_from_Zip c.loop-range.range-iterator c.next.new.self c.next.result c.in-None.is c.next.ensures.steps))
