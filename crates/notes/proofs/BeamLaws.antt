-- The beam of a voice, which its part keeps.
use Rattle.std.proofs.Common.{◌≡◌, ℕ, ◌<◌, ◌≤◌, Bool, List, length, get_or, take, set, ap, ◌∙◌}
use Rattle.std.proofs.Math.Seq.{take-set-lt}
use Rattle.notation.specs.Beam.{beam_number, letters_of}
use Rattle.notation.specs.declared.beam.Letters.{Letters}
use Rattle.reading.specs.declared.Part.{Part}
use Rattle.reading.specs.State.{fresh_part}
use Rattle.reading.specs.Notes.{beam_in, sounded}
use Rattle.state.proofs.PartLaws.{part_in}
use Rattle.notes.specs.Beam.{beam_by, sounded_by}

-- the letters are the token's
module _ (p : Part) (v : ℕ) (token : List ℕ) {l : Letters} (e : l ≡ letters_of token) where
  pub sounded_by_lem : sounded_by p v l.starts l.ends ≡ sounded p v token
  sounded_by_lem = ap (λ (y : Letters). sounded_by p v y.starts y.ends) e

  pub beam_by_lem : beam_number (beam_by p v l.starts l.ends).mark ≡ beam_number (beam_in p v token).mark
  beam_by_lem = ap (λ (y : Letters). beam_number (beam_by p v y.starts y.ends).mark) e

-- the part of a spot is one of the text's n parts, which come first in an array
pub part_sounded : (n p v : ℕ) (starts ends : Bool) (d : Part) (parts : List Part) {q : Part} {r : ℕ} → p < n → n ≤ length parts
    → (q ≡ sounded_by (get_or parts p d) v starts ends) × (r ≡ beam_number (beam_by (get_or parts p d) v starts ends).mark)
    → (take n (set parts p q) ≡ set (take n parts) p (sounded_by (get_or (take n parts) p (fresh_part p)) v starts ends))
    × (r ≡ beam_number (beam_by (get_or (take n parts) p (fresh_part p)) v starts ends).mark)
part_sounded n p v starts ends d parts {q} lt few e =
    let i : get_or parts p d ≡ get_or (take n parts) p (fresh_part p) = part_in n p d (fresh_part p) parts lt few in (
      take-set-lt n parts p q lt ∙ ap (set (take n parts) p) (e.0 ∙ ap (λ (x : Part). sounded_by x v starts ends) i),
      e.1 ∙ ap (λ (x : Part). beam_number (beam_by x v starts ends).mark) i,
    )
