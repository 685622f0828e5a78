-- Tokens of the usual shape in a line: their parts, and where they end.
use mathlib.Core.Path.{◌≡◌, refl, sym, ap, ◌∙◌}
use Prim.Native.Nat.{ℕ, ◌+◌, ◌-◌, ◌≤◌, ◌<◌}
use native.Mathlib.Omega.{arith}
use mathlib.Core.List.{List, [], ◌∷◌, ◌++◌}
use mathlib.Core.Bool.{Bool, true, false, ◌&&◌}
use lib.Dec.{eqb, ltb}
use lib.ListN.{length, drop, get_or, take-append-drop, drop_of_length-le}
use lib.Seq.{drop-drop}
use borrow.Author.Tests.{eq-eqb, ltb-true, ltb-false, not-true}
use Rattle.slices.specs.Split.{index_of, piece_at}
use Rattle.slices.specs.Compare.{same_bytes}
use Rattle.slices.proofs.SplitLaws.{at_index, index_more, index_none}
use Rattle.lines.specs.Lines.{piece_end}
use Rattle.lines.specs.Tokens.{is_null}
use Rattle.duration.specs.Duration.{digit, digits, number, number_from, duration_of}
use Rattle.duration.specs.declared.Value.{Value}
use Rattle.notation.specs.Bytes.{contains}
use Rattle.pitch.specs.Pitch.{pitch_of}
use Rattle.pitch.specs.declared.Pitch.{Pitch}
use Rattle.std.specs.Prelude.{Option, Some, unwrap_or}
use Rattle.std.specs.Option.{is_none}
use Rattle.plain.specs.declared.TheConstants.{SILENT}
use Rattle.plain.specs.Plain.{ShapeAt}
use Rattle.plain.specs.Usual.{digit_bytes, digit_by, all_in, Run, opened, Said, said_by, carried, Marking, Numbering, Signing, SungAt, Parts, Closed, Tail}
use Rattle.plain.specs.declared.Opening.{Opening}
use Rattle.plain.specs.declared.Valued.{Valued}
use Rattle.plain.specs.declared.Plain.{Plain}
use Rattle.plain.specs.declared.Shape.TheVariants.{Null, Note}
use Rattle.token.specs.Outcome.{noted}
use Rattle.plain.proofs.PieceLaws.{piece_none, piece_join, piece_more, piece_length}
use Rattle.plain.proofs.ByteLaws.{each, each_in}
use Rattle.plain.proofs.AspectLaws.{each_head, each_tail, differs}
use Rattle.plain.proofs.BodyLaws.{Body, body_of}
use Rattle.plain.proofs.TokenLaws.{tabless, plain_token}

-- ---- the end of a token
index_over : (b : ℕ) (xs ys : List ℕ) → each (differs b) xs ≡ true → index_of b (xs ++ ys) ≡ length xs + index_of b ys
unfolding index_of
index_over b [] ys e = omega arith
index_over b (x ∷ xs) ys e =
    rw (not-true (eqb x b) (each_head (differs b) x xs e)) (omega (arith, index_over b xs ys (each_tail (differs b) x xs e)))

index_closed : (line : List ℕ) (end : ℕ) → Closed line end → index_of 9 (drop end line) ≡ 0
index_closed line end h = go (ltb end (length line)) refl
  where
    go : (t : Bool) → ltb end (length line) ≡ t → index_of 9 (drop end line) ≡ 0
    go true e =
        let l : end < length line = ltb-true end (length line) e in
        ap (index_of 9) (at_index line end l) ∙ rw (index_more, eq-eqb _ _ (h l))
    go false e = ap (index_of 9) (drop_of_length-le line (ltb-false end (length line) e)) ∙ index_none 9

pub end_is : (line : List ℕ) (from end : ℕ) → from ≤ end → end ≤ length line → each (differs 9) (piece_at line from (end - from)) ≡ true
    → Closed line end → end ≡ piece_end 9 line from
end_is line from end l h e c =
    let k : from + (end - from) ≡ end = omega arith in
    let d : drop from line ≡ piece_at line from (end - from) ++ drop end line =
    sym (take-append-drop (end - from) (drop from line))
    ∙ ap (λ (r : List ℕ). piece_at line from (end - from) ++ r) (drop-drop (end - from) from line ∙ ap (λ (m : ℕ). drop m line) k) in
    let i : index_of 9 (drop from line) ≡ length (piece_at line from (end - from)) + index_of 9 (drop end line) =
    ap (index_of 9) d ∙ index_over 9 (piece_at line from (end - from)) (drop end line) e in
    omega (arith, i, index_closed line end c, piece_length line from end l h)

-- one byte
pub piece_one : (line : List ℕ) (from : ℕ) → from < length line → piece_at line from (from + 1 - from) ≡ get_or line from 0 ∷ []
piece_one line from h = piece_more line from from (omega arith) h ∙ ap (λ (l : List ℕ). l ++ (get_or line from 0 ∷ [])) (piece_none line from)

-- ---- a null token
pub null_shape : (line : List ℕ) (from : ℕ) → from < length line → get_or line from 0 ≡ 46 → Closed line (from + 1) → ShapeAt line from (Null (from + 1))
unfolding is_null same_bytes each
null_shape line from h e c =
    let p : piece_at line from (from + 1 - from) ≡ 46 ∷ [] = piece_one line from h ∙ ap (λ (x : ℕ). x ∷ []) e in
    (end_is line from (from + 1) (omega arith) (omega arith) (ap (each (differs 9)) p) c, ap is_null p)

-- ---- a rest, or a pitch
pub sung_pitch : {line : List ℕ} {from to c step octave alter end : ℕ} {p : Option Pitch} → Run (c ∷ []) line from to → Signing line to alter end
    → p ≡ pitch_of c (to - from) → p ≡ Some (record { step = step; octave = octave })
    → SungAt line from (record { tone = Some (record { step = step; octave = octave; alter = alter }); end = end })
sung_pitch {line} {from} {to} {c} {step} {octave} {alter} {end} {p} r s e q =
    record {
      low = omega (arith, r.low, s.run.low);
      high = s.run.high;
      sound =
          record {
            letter = c;
            run = piece_at line from (to - from);
            signs = piece_at line to (end - to);
            parts = piece_join line from to end r.low s.run.low;
            letters = r.inside;
            place = ap (pitch_of c) (piece_length line from to r.low r.high) ∙ sym e ∙ q;
            signed = s.run.inside;
            alter = s.same;
          };
    }

-- ---- the length that digits write
digits_in_lem : (xs : List ℕ) → all_in digit_bytes xs ≡ true → digits xs ≡ true
unfolding digits each contains
digits_in_lem xs h = same xs ∙ each_in digit digit_bytes xs refl h
  where
    same : (ys : List ℕ) → digits ys ≡ each digit ys
    same [] = refl
    same (y ∷ ys) = ap (λ (t : Bool). digit y && t) (same ys)

number_by : (n : ℕ) (xs : List ℕ) → carried digit_by n xs ≡ number_from n xs
unfolding carried number_from
number_by n [] = refl
number_by n (x ∷ xs) = number_by (digit_by n x) xs

pub reciprocal_value : {line : List ℕ} {from n end : ℕ} {v : Option Value} → Numbering line from n end
    → ((s : List ℕ) → digits s ≡ true → number s ≡ n → length s ≡ end - from → v ≡ duration_of s) → v ≡ duration_of (piece_at line from (end - from))
reciprocal_value {line} {from} {n} {end} r h =
    let ds : List ℕ = piece_at line from (end - from) in
    h ds (digits_in_lem ds r.run.inside) (sym (number_by 0 ds) ∙ r.same) (piece_length line from end r.run.low r.run.high)

-- ---- a note
module _ {line : List ℕ} {from digits to sound : ℕ} (opening : Opening) (v : Valued) (o : Marking line from (opened false false) (opened opening.ties opening.slurs) digits) (d : Run digit_bytes line digits to) (some : digits < to) {value : Value} (written : duration_of (piece_at line digits (to - digits)) ≡ Some value) (parts : Parts value v) (dot : Run (46 ∷ []) line to sound) (few : sound - to ≤ 3) where
  pub note_shape : (p : Plain) → Tail line sound opening v (sound - to) p → ShapeAt line from (Note p)
  note_shape p h =
      let pre : List ℕ = piece_at line from (digits - from) in
      let ds : List ℕ = piece_at line digits (to - digits) in
      let dots : List ℕ = piece_at line to (sound - to) in
      let bytes : List ℕ = piece_at line sound (h.sung.end - sound) in
      let post : List ℕ = piece_at line h.sung.end (p.end - h.sung.end) in
      let b : Body bytes (is_none h.sung.tone) (unwrap_or h.sung.tone SILENT) post = body_of post h.sung.tone h.sound.sound h.marks.run.inside in
      let whole : piece_at line from (p.end - from) ≡ pre ++ (ds ++ (dots ++ (bytes ++ post))) =
      piece_join line from digits p.end o.run.low (omega (arith, d.low, dot.low, h.sound.low, h.marks.run.low))
      ∙ ap (λ (l : List ℕ). pre ++ l)
      (piece_join line digits to p.end d.low (omega (arith, dot.low, h.sound.low, h.marks.run.low))
      ∙ ap (λ (l : List ℕ). ds ++ l)
      (piece_join line to sound p.end dot.low (omega (arith, h.sound.low, h.marks.run.low))
      ∙ ap (λ (l : List ℕ). dots ++ l) (piece_join line sound h.sung.end p.end h.sound.low h.marks.run.low))) in
      let n : length ds ≡ to - digits = piece_length line digits to d.low d.high in
      let k : length dots ≡ sound - to = piece_length line to sound dot.low dot.high in
      let more : 0 < length ds = omega arith in
      let less : length dots ≤ 3 = omega arith in
      let tab = tabless pre ds dots bytes post (is_none h.sung.tone) (unwrap_or h.sung.tone SILENT) o.run.inside d.inside more dot.inside less b in
      let s : carried said_by (carried said_by (opened false false) pre) post ≡ h.said = ap (λ (u : Said). carried said_by u post) o.same ∙ h.marks.same in (
        end_is line from p.end (omega (arith, o.run.low, d.low, dot.low, h.sound.low, h.marks.run.low)) h.marks.run.high (ap (each (differs 9)) whole ∙ tab) h.closed,
        rw whole
            (plain_token pre ds dots bytes post (is_none h.sung.tone) (unwrap_or h.sung.tone SILENT) o.run.inside d.inside more dot.inside less b h.said s v (λ w. ap (λ (u : Option Value). noted u w) written ∙ parts w) p (rw k h.note) h.tone h.starts h.ends h.unknown),
      )
