-- The loop of the scan: what it keeps, the turn that keeps it, and what it has at the end.
use mathlib.Core.Path.{◌≡◌, refl, sym, ap, ◌∙◌}
use Prim.Native.Nat.{ℕ, ◌+◌, ◌≤◌, ◌<◌}
use native.Mathlib.Omega.{arith}
use mathlib.Core.List.{List}
use mathlib.Core.Bool.{Bool, true, false, cond}
use lib.ListN.{length, get_or}
use Rattle.duration.specs.Ratio.{is_ratio, spelled_value}
use Rattle.items.specs.Items.{is_digit, length_item, items, next_item}
use Rattle.items.specs.declared.Item.{Item}
use Rattle.items.specs.declared.Item.TheVariants.{Digits, Ratio}
use Rattle.items.specs.declared.Next.{Next}
use Rattle.items.proofs.NextLaws.{next_length}
use Rattle.items.proofs.RunLaws.{At, next_at}
use Rattle.token.specs.declared.scan.Before.TheVariants.{Nothing}
use Rattle.token.specs.Token.{pitches_of, signifiers_of, articulations_of}
use Rattle.token.specs.Scan.{scan_items, scan_of}
use Rattle.scan.specs.Steps.{no_first, no_marks, collected, step_lengths, step_first, step_sounds, step_marks}
use Rattle.token.specs.declared.scan.Scan.{Scan}
use Rattle.scan.specs.declared.Lengths.{Lengths}
use Rattle.scan.specs.declared.First.{First}
use Rattle.scan.specs.declared.Sounds.{Sounds}
use Rattle.scan.specs.declared.Marks.{Marks}
use Rattle.std.specs.Prelude.{None}
use Rattle.scan.proofs.FoldLaws.{fold, Folding, fold_turn, fold_past}
use Rattle.scan.proofs.LengthLaws.{bad_fold}
use Rattle.scan.proofs.FirstLaws.{before}
use Rattle.scan.proofs.SoundLaws.{signifiers_fold, pitches_fold, slow}
use Rattle.scan.proofs.MarkLaws.{marks_fold, slow_marks}

abbrev lengths₀ : Lengths
lengths₀ = record { later = false; begun = false; before = Nothing; bad = false }

abbrev sounds₀ : Sounds
sounds₀ = record { sounding = false; pitches = 0; signifiers = 0 }

-- a length is no sound and no mark
no_sound : {i : Item} (x : List ℕ) → i ≡ length_item x → (s : Sounds) (m : Marks) → (s ≡ step_sounds s i) × (m ≡ step_marks m i)
no_sound x e s m = rw e (go (is_ratio x))
  where
    go : (t : Bool) → let i = cond t (Ratio (spelled_value x)) (Digits (spelled_value x)) in (s ≡ step_sounds s i) × (m ≡ step_marks m i)
    go true = (refl, refl)
    go false = (refl, refl)

pub record Scanning (token : List ℕ) (l : Lengths) (f : First) (s : Sounds) (m : Marks) (i : ℕ) : Type 0 where
  pub high : i ≤ length token
  pub lengths : Folding Lengths step_lengths lengths₀ token l i
  pub first : Folding First step_first no_first token f i
  pub sounds : Folding Sounds step_sounds sounds₀ token s i
  pub marks : Folding Marks step_marks no_marks token m i
  pub pitches : s.pitches ≤ i
  pub signifiers : s.signifiers ≤ i
  pub articulations : m.articulations ≤ i

module _ {token : List ℕ} {l : Lengths} {f : First} {s : Sounds} {m : Marks} {i : ℕ} (inv : Scanning token l f s m i) where
  pub scan_turn : {n : Next} {l' : Lengths} {f' : First} {s' : Sounds} {m' : Marks} → i < length token → n ≡ next_item token i
      → l' ≡ step_lengths l n.item → f' ≡ step_first f n.item → s' ≡ step_sounds s n.item → m' ≡ step_marks m n.item
      → Scanning token l' f' s' m' n.end
  scan_turn {n} {l'} {f'} {s'} {m'} h e el ef es em =
      let at : At token i n = next_at h e in
      let g = slow s n.item in
      let gp : s'.pitches ≤ s.pitches + 1 = rw es g.pitches in
      let gs : s'.signifiers ≤ s.signifiers + 1 = rw es g.signifiers in
      let gm : m'.articulations ≤ m.articulations + 1 = rw em (slow_marks m n.item) in
      record {
        high = at.high;
        lengths = fold_turn inv.lengths at el;
        first = fold_turn inv.first at ef;
        sounds = fold_turn inv.sounds at es;
        marks = fold_turn inv.marks at em;
        pitches = omega (arith, at.on, inv.pitches);
        signifiers = omega (arith, at.on, inv.signifiers);
        articulations = omega (arith, at.on, inv.articulations);
      }

  pub scan_length : {n : Next} {l' : Lengths} {f' : First} {d : Bool} → i < length token → d ≡ is_digit (get_or token i 0) → d ≡ true → n ≡ next_item token i
      → l' ≡ step_lengths l n.item → f' ≡ step_first f n.item → Scanning token l' f' s m n.end
  scan_length h p y e el ef =
      let q = no_sound _ (ap (λ (x : Next). x.item) (e ∙ sym (next_length token i h refl p y))) s m in
      scan_turn h e el ef q.0 q.1

-- the four states together are the scan
together : (is : List Item)
    → collected (fold step_lengths lengths₀ is) (fold step_first no_first is) (fold step_sounds sounds₀ is) (fold step_marks no_marks is) ≡ scan_items is
unfolding scan_items
together is =
    let b = bad_fold lengths₀ is in
    let f = before is in
    let p : (fold step_sounds sounds₀ is).pitches ≡ length (pitches_of is) = omega (arith, pitches_fold None 0 0 is) in
    let q : (fold step_sounds sounds₀ is).signifiers ≡ length (signifiers_of is) = omega (arith, signifiers_fold sounds₀ is) in
    let m = marks_fold no_marks is in
    let a : (fold step_marks no_marks is).articulations ≡ length (articulations_of is) = omega (arith, m.articulations) in
    rw (b, f.silent, f.given, f.dots, f.rest, p, q, m.ties, m.tied, m.slurs, m.slurred, m.grace, a)

pub scan_past : {token : List ℕ} {l : Lengths} {f : First} {s : Sounds} {m : Marks} {i : ℕ} {r : Scan} → Scanning token l f s m i → length token ≤ i
    → r ≡ collected l f s m → r ≡ scan_of token
scan_past {token} inv h e =
    e
    ∙ rw (fold_past inv.lengths h, fold_past inv.first h, fold_past inv.sounds h, fold_past inv.marks h) (together (items token))
