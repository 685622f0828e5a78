-- What the shape of a token says of its column.
use mathlib.Core.Path.{◌≡◌, sym, ap, subst, ◌∙◌}
use Prim.Native.Nat.{ℕ, ◌-◌}
use mathlib.Core.Bool.{true}
use mathlib.Core.List.{List}
use Rattle.slices.specs.Split.{piece_at}
use Rattle.lines.specs.Lines.{piece_end}
use Rattle.lines.specs.Tokens.{is_null}
use Rattle.plain.specs.Plain.{PlainToken, ShapeAt}
use Rattle.plain.specs.declared.Plain.{Plain}
use Rattle.plain.specs.declared.Shape.{Shape}
use Rattle.plain.specs.declared.Shape.TheVariants.{Null, Note}
use Rattle.data.specs.declared.Column.{Column}
use Rattle.data.specs.Column.{token_in}

module _ (line : List ℕ) (from : ℕ) (s : Shape) (h : ShapeAt line from s) where
  pub null_end : {end : ℕ} → s ≡ Null end → end ≡ piece_end 9 line from
  null_end e = (subst (ShapeAt line from) e h).0

  pub note_end : {p : Plain} → s ≡ Note p → p.end ≡ piece_end 9 line from
  note_end e = (subst (ShapeAt line from) e h).0

module _ (offset : ℕ) (line : List ℕ) (c : Column) (s : Shape) (h : ShapeAt line c.from s) (ends : c.end ≡ piece_end 9 line c.from) where
  pub null_column : {end : ℕ} → s ≡ Null end → is_null (token_in offset line c).bytes ≡ true
  null_column e =
      let z = subst (ShapeAt line c.from) e h in
      ap (λ (x : ℕ). is_null (piece_at line c.from (x - c.from))) (ends ∙ sym z.0) ∙ z.1

  pub note_column : {p : Plain} → s ≡ Note p → PlainToken (token_in offset line c).bytes p
  note_column {p} e =
      let z = subst (ShapeAt line c.from) e h in
      subst (λ (x : ℕ). PlainToken (piece_at line c.from (x - c.from)) p) (z.0 ∙ sym ends) z.1
