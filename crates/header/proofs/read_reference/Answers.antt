-- By what the key names; the pieces of a record stand inside its line.
use mathlib.Core.Path.{refl, sym, subst}
use mathlib.Core.List.{[]}
use Rattle.state.specs.Counts.{Same}
use Rattle.writing.proofs.KeptLaws.{kept_same}
use Rattle.header.proofs.HeaderLaws.{title_told, composer_told, lyricist_told, other_key_told}
use Rattle.header.proofs.read_reference.Goals as goal

pub returns-in-Title : goal.returns-in-Title
returns-in-Title c = record { told = λ cells parts. title_told c.args.line.bytes.now _ c.reference_of-r.result c.args.line.number c.args.line.offset c.args.tally c.tail.ensures c.reference_of-r.ensures c.span_of-value.result c.span_of-value.ensures cells parts c.args.out.now c.in-Title.is; same = record { active = refl; parts = refl; bars = refl } }

pub returns-in-Composer : goal.returns-in-Composer
returns-in-Composer c = record { told = λ cells parts. composer_told c.args.line.bytes.now _ c.reference_of-r.result c.args.line.number c.args.line.offset c.args.tally c.tail.ensures c.reference_of-r.ensures c.span_of-value.result c.span_of-value.ensures cells parts c.args.out.now c.in-Composer.is; same = record { active = refl; parts = refl; bars = refl } }

pub returns-in-Lyricist : goal.returns-in-Lyricist
returns-in-Lyricist c = record { told = λ cells parts. lyricist_told c.args.line.bytes.now _ c.reference_of-r.result c.args.line.number c.args.line.offset c.args.tally c.tail.ensures c.reference_of-r.ensures c.span_of-value.result c.span_of-value.ensures cells parts c.args.out.now c.in-Lyricist.is; same = record { active = refl; parts = refl; bars = refl } }

pub returns-in-Other : goal.returns-in-Other
returns-in-Other c = record { told = λ cells parts. other_key_told c.args.line.bytes.now _ c.reference_of-r.result c.args.line.number c.args.line.offset c.args.tally c.tail.ensures c.reference_of-r.ensures c.span_of-value.result c.span_of-value.ensures cells parts c.args.out.now c.span_of-key.result c.span_of-key.ensures c.in-Other.is _ _ (rw c.from.ensures at c.keep.ensures); same = subst (Same c.args.tally) (sym c.keep.ensures.1) (kept_same c.args.tally _ []) }
