-- The notes that the two layers keep. Assumes nothing.
use Rattle.std.specs.Prelude.{vec_items}
use Rattle.layers.specs.declared.field_list.FieldList.{FieldList}
use Rattle.layers.specs.declared.kept_values.KeptValues.{KeptValues}
use Rattle.judges.specs.declared.window.Window.{Window}
use Rattle.judges.specs.Notes.{Note, withdrawals, windows}

abbrev pub values_note : KeptValues → Note
values_note kept = withdrawals kept.list.field (vec_items kept.list.items)

abbrev pub windows_note : FieldList Window 8 → Note
windows_note kept = windows kept.field (vec_items kept.items)
