-- Request E7: "Two signatures shall be equal only when they name the same steps with the same signs."
use mathlib.Core.Path.{◌≡◌, refl, sym, ap, ◌∙◌}
use Prim.Native.Nat.{ℕ, zero, suc, ◌-◌, ◌*◌, ◌/◌, ◌%◌, ◌^◌, ◌≤◌, ◌<◌}
use native.Mathlib.Omega.{arith}
use mathlib.Core.List.{List, [], ◌∷◌, ◌++◌}
use mathlib.Core.Bool.{Bool, true, false, ◌&&◌, cond}
use lib.Dec.{eqb, leb, ltb}
use lib.ListN.{length, take, drop, get_or, take-append-drop}
use lib.Seq.{take-length}
use borrow.Author.Tests.{eqb-true}
use lib.IntN.{ℤ, pos, negsuc, neg_ℤ}
use Rattle.std.proofs.Common.{Some, None, Option, Ok, Err, Result}
use Rattle.std.specs.Option.{option_map, ok_or}
use Rattle.slices.specs.Ascii.{ascii}
use Rattle.slices.specs.Compare.{begins_with}
use Rattle.slices.specs.Split.{index_of}
use Rattle.slices.proofs.CompareLaws.{begins_is}
use Rattle.slices.proofs.PieceLaws.{last_at}
use Rattle.slices.proofs.TestLaws.{clash}
use Rattle.interpretation.proofs.KeyLaws.{steps_few, steps_some}
use Rattle.interpretation.specs.Digits.{all_digits, decimal}
use Rattle.interpretation.specs.Number.{byte_number}
use Rattle.interpretation.specs.Words.{named}
use Rattle.interpretation.specs.Clef.{clefs, clef_of}
use Rattle.interpretation.specs.Key.{sharp_order, flat_order, is_prefix, ends_with, without_last, signature_of, key_of, tonic_mode, mode_of}
use Rattle.interpretation.specs.Meter.{power_of_two, without_plus, meter_from, meter_of, symbols, symbol_of}
use Rattle.interpretation.specs.Tempo.{rounded, tempo_from, tempo_of}
use Rattle.interpretation.specs.Interpretation.{clef_mark, key_mark, symbol_mark, tempo_mark, name_mark, short_name_mark, meter_mark, is_attribute, other_of, meaning_of, interpretation_of}
use Rattle.interpretation.specs.declared.Interpretation.{Interpretation}
use Rattle.interpretation.specs.declared.Interpretation.TheVariants.{Nothing, Clef, Key, Symbol}
use Rattle.interpretation.specs.declared.Unsupported.{Unsupported}
use Rattle.interpretation.specs.declared.Unsupported.TheVariants.{InsideBar, OtherClef, OpenKey, OtherKey, OtherMeter, OtherSymbol, OtherTempo, Other}
use Rattle.interpretation.specs.declared.clef.Clef.{Clef as ClefSign}
use Rattle.interpretation.specs.declared.meter.Symbol.{Symbol as MeterSymbol}

-- what a text between the brackets is read as: where it sets n fifths it is the first n sharps, where it sets n below 0 the first n flats
pub data Signature (s : List ℕ) : Result Interpretation Unsupported → Type 0 where
  sharps : (n : ℕ) → n ≤ 7 → s ≡ take (2 * n) sharp_order → Signature s (Ok (Key (pos n)))
  flats : (n : ℕ) → n < 7 → s ≡ take (2 * suc n) flat_order → Signature s (Ok (Key (negsuc n)))
  other : Signature s (Err OtherKey)

-- a prefix of an order of seven steps, by its steps
steps : (s order : List ℕ) → length order ≡ 14 → length s % 2 ≡ 0 → begins_with s order ≡ true → (length s / 2 ≤ 7) × (s ≡ take (2 * (length s / 2)) order)
steps s order n h e =
    let few = steps_few s order e in
    let twice : length s ≡ 2 * (length s / 2) = omega arith in
    (omega arith, begins_is s order e ∙ ap (λ (m : ℕ). take m order) twice)

-- some steps below 0
flat : {s : List ℕ} (n : ℕ) → 0 < n → n ≤ 7 → s ≡ take (2 * n) flat_order → Signature s (Ok (Key (neg_ℤ (pos n))))
flat zero h l e = absurd (omega arith)
flat (suc n) h l e = flats n (omega arith) e

pub signature_read : (s : List ℕ) → Signature s (signature_of s)
unfolding signature_of is_prefix
signature_read s = go (eqb (length s % 2) 0) (begins_with s sharp_order) (begins_with s flat_order) refl refl refl
  where
    go : (a b c : Bool) → eqb (length s % 2) 0 ≡ a → begins_with s sharp_order ≡ b → begins_with s flat_order ≡ c
        → Signature s (cond (a && b) (Ok (Key (pos (length s / 2)))) (cond (a && c) (Ok (Key (neg_ℤ (pos (length s / 2))))) (Err OtherKey)))
    go false b c p q r = other
    go true true c p q r = let h = steps s sharp_order refl (eqb-true _ _ p) q in sharps (length s / 2) h.0 h.1
    go true false true p q r =
        let even = eqb-true (length s % 2) 0 p in
        let some = steps_some s sharp_order q in
        let h = steps s flat_order refl even r in
        flat (length s / 2) (omega arith) h.0 h.1
    go true false false p q r = other

-- the steps and signs of a key
abbrev signs : ℤ → List ℕ
signs (pos n) = take (2 * n) sharp_order
signs (negsuc n) = take (2 * suc n) flat_order

signature_signs : {s : List ℕ} {r : Result Interpretation Unsupported} → Signature s r → (k : ℤ) → r ≡ Ok (Key k) → s ≡ signs k
signature_signs (sharps n h e) k q = let m : pos n ≡ k = cc in rw (sym m) e
signature_signs (flats n h e) k q = let m : negsuc n ≡ k = cc in rw (sym m) e
signature_signs other k q = clash (cc)

last_some : (s : List ℕ) {b : ℕ} → 0 < b → get_or s (length s - 1) 0 ≡ b → 0 < length s
last_some [] h e = omega arith
last_some (x ∷ s) h e = omega arith

-- the text behind `k[` that sets a key: its steps and signs, and the bracket
key_signs : (s : List ℕ) (k : ℤ) → key_of s ≡ Ok (Key k) → s ≡ signs k ++ ascii "]"
unfolding key_of ends_with without_last
key_signs s k q = go (eqb (get_or s (length s - 1) 0) 93) refl q
  where
    go : (b : Bool) → eqb (get_or s (length s - 1) 0) 93 ≡ b → cond b (signature_of (take (length s - 1) s)) (Err OpenKey) ≡ Ok (Key k) → s ≡ signs k ++ ascii "]"
    go false p r = clash (cc)
    go true p r =
        let last = eqb-true (get_or s (length s - 1) 0) 93 p in
        let some : 0 < length s = last_some s (omega arith) last in
        sym (take-length s)
        ∙ last_at s (length s) some (omega arith)
        ∙ rw (signature_signs (signature_read (take (length s - 1) s)) k r, last)

-- what sets no key
record Keyless (r : Result Interpretation Unsupported) : Type 0 where
  none : (k : ℤ) → r ≡ Ok (Key k) → ⊥

notice : (u : Unsupported) → Keyless (Err u)
notice u = record { none = λ k e. clash (cc) }

either : {x y : Result Interpretation Unsupported} (b : Bool) → Keyless x → Keyless y → Keyless (cond b x y)
either true p q = p
either false p q = q

clef_keyless : (s : List ℕ) → Keyless (clef_of s)
unfolding clef_of
clef_keyless s = go (named clefs s)
  where
    go : (o : Option ClefSign) → Keyless (ok_or (option_map Clef o) OtherClef)
    go None = notice OtherClef
    go (Some c) = record { none = λ k e. clash (cc) }

symbol_keyless : (s : List ℕ) → Keyless (symbol_of s)
unfolding symbol_of
symbol_keyless s = go (named symbols s)
  where
    go : (o : Option MeterSymbol) → Keyless (ok_or (option_map Symbol o) OtherSymbol)
    go None = notice OtherSymbol
    go (Some c) = record { none = λ k e. clash (cc) }

from_keyless : (n d : Option ℕ) → Keyless (meter_from n d)
unfolding meter_from
from_keyless None d = notice OtherMeter
from_keyless (Some n) None = notice OtherMeter
from_keyless (Some n) (Some d) = either (ltb 0 n && power_of_two d) (record { none = λ k e. clash (cc) }) (notice OtherMeter)

meter_keyless : (s : List ℕ) → Keyless (meter_of s)
unfolding meter_of
meter_keyless s =
    either (ltb (index_of 47 s) (length s))
    (from_keyless (byte_number (take (index_of 47 s) s)) (byte_number (without_plus (drop (suc (index_of 47 s)) s))))
    (notice OtherMeter)

rounded_keyless : (n unit : ℕ) → Keyless (rounded n unit)
unfolding rounded
rounded_keyless n unit = either (leb unit n && leb n (65535 * unit)) (record { none = λ k e. clash (cc) }) (notice OtherTempo)

tempo_keyless : (whole fraction : List ℕ) → Keyless (tempo_from whole fraction)
unfolding tempo_from
tempo_keyless whole fraction =
    either (all_digits (whole ++ fraction) && leb 1 (length (whole ++ fraction)) && leb (length fraction) 9)
    (rounded_keyless (decimal (whole ++ fraction)) (10 ^ length fraction))
    (notice OtherTempo)

mode_keyless : (s : List ℕ) → Keyless (mode_of s)
unfolding mode_of tonic_mode
mode_keyless s =
    either (leb (length (without_last s)) 3 && ends_with 58 s)
    (either (leb 65 (get_or (without_last s) 0 0) && leb (get_or (without_last s) 0 0) 71) (record { none = λ k e. clash (cc) })
    (either (leb 97 (get_or (without_last s) 0 0) && leb (get_or (without_last s) 0 0) 103) (record { none = λ k e. clash (cc) }) (notice Other)))
    (notice Other)

other_keyless : (s : List ℕ) → Keyless (other_of s)
unfolding other_of tempo_of
other_keyless s =
    either (begins_with tempo_mark s) (tempo_keyless (take (index_of 46 (drop 2 s)) (drop 2 s)) (drop (suc (index_of 46 (drop 2 s))) (drop 2 s)))
    (either (begins_with name_mark s) (record { none = λ k e. clash (cc) })
    (either (begins_with short_name_mark s) (record { none = λ k e. clash (cc) }) (mode_keyless s)))

meaning_signs : (s : List ℕ) (k : ℤ) → meaning_of s ≡ Ok (Key k) → s ≡ ascii "k[" ++ signs k ++ ascii "]"
unfolding meaning_of
meaning_signs s k q =
    go (begins_with clef_mark s) (begins_with key_mark s) refl
    (either (meter_mark s) (meter_keyless (drop 1 s)) (either (begins_with symbol_mark s) (symbol_keyless (drop 4 s)) (other_keyless s)))
    q
  where
    go : (b c : Bool) {rest : Result Interpretation Unsupported} → begins_with key_mark s ≡ c → Keyless rest → cond b (clef_of (drop 4 s)) (cond c (key_of (drop 2 s)) rest) ≡ Ok (Key k)
        → s ≡ ascii "k[" ++ signs k ++ ascii "]"
    go true c p n r = absurd ((clef_keyless (drop 4 s)).none k r)
    go false true p n r = sym (take-append-drop 2 s) ∙ rw (sym (begins_is key_mark s p), key_signs (drop 2 s) k r)
    go false false p n r = absurd (n.none k r)

-- the token that sets a key, in a bar that has a note or not
token_signs : (a : List ℕ) (noted : Bool) (k : ℤ) → interpretation_of (ascii "*" ++ a) noted ≡ Ok (Key k) → a ≡ ascii "k[" ++ signs k ++ ascii "]"
unfolding interpretation_of
token_signs a noted k q = go (eqb (length a) 0) (noted && is_attribute a) q
  where
    go : (b c : Bool) → cond b (Ok Nothing) (cond c (Err InsideBar) (meaning_of a)) ≡ Ok (Key k) → a ≡ ascii "k[" ++ signs k ++ ascii "]"
    go true c r = clash (cc)
    go false true r = clash (cc)
    go false false r = meaning_signs a k r

-- two star tokens that set equal keys are the same bytes: the same steps with the same signs
pub same_signature : (a b : List ℕ) (x y : Bool) (k : ℤ) → interpretation_of (ascii "*" ++ a) x ≡ Ok (Key k) → interpretation_of (ascii "*" ++ b) y ≡ Ok (Key k) → a ≡ b
same_signature a b x y k p q = token_signs a x k p ∙ sym (token_signs b y k q)
