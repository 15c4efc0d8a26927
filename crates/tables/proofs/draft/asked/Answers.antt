-- The clauses behind the kind's fields stay 0 to 0, which runs forward.
use Rattle.std.proofs.Common.{ap, ◌∙◌}
use Rattle.rules.specs.Intervals.{every, forward}
use Rattle.tables.proofs.Adding.{padded_forward}
use Rattle.tables.proofs.draft.asked.Goals as goal

pub returns-clause-run : goal.returns-clause-run
returns-clause-run c = padded_forward c.copy_from_slice.new.self c.args.fields (ap (every forward) c.copy_from_slice.ensures.after ∙ c.requires.run)
