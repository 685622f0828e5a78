-- The ranges of what an interpretation says.
use mathlib.Core.Path.{◌≡◌, refl}
use Prim.Native.Nat.{ℕ, suc, ◌+◌, ◌*◌, ◌/◌, ◌^◌, ◌≤◌, ◌<◌}
use native.Mathlib.Nat.{one-le-pow}
use native.Mathlib.Omega.{arith}
use mathlib.Core.List.{List, ◌++◌}
use mathlib.Core.Bool.{Bool, true, false, ◌&&◌, ◌||◌, cond, not, false≢true}
use lib.Dec.{T, eqb, leb, ltb, leb→le}
use lib.ListN.{length, take, drop, get_or}
use borrow.Author.Tests.{leb-true, ltb-true}
use Rattle.std.proofs.Common.{Some, None, Option, Ok, Err, Result, unsigned_abs}
use Rattle.std.specs.Option.{option_map, ok_or}
use Rattle.std.specs.Result.{MatchResult}
use Rattle.slices.specs.Compare.{begins_with}
use Rattle.slices.specs.Finite.{below}
use Rattle.slices.specs.Split.{index_of}
use Rattle.slices.proofs.TestLaws.{both}
use Rattle.interpretation.proofs.Signatures.{Signature, sharps, flats, other, signature_read}
use Rattle.interpretation.proofs.MeterLaws.{byte_small}
use Rattle.interpretation.proofs.TempoLaws.{rounded_most, rounded_least}
use Rattle.interpretation.specs.Digits.{all_digits, decimal}
use Rattle.interpretation.specs.Number.{byte_number}
use Rattle.interpretation.specs.Words.{named}
use Rattle.interpretation.specs.Clef.{clefs, clef_number, clef_of}
use Rattle.interpretation.specs.Key.{ends_with, without_last, key_of, mode_number, tonic_mode, mode_of}
use Rattle.interpretation.specs.Meter.{power_below, power_of_two, without_plus, meter_from, meter_of, symbols, symbol_number, symbol_of}
use Rattle.interpretation.specs.Tempo.{rounded, tempo_from, tempo_of}
use Rattle.interpretation.specs.Interpretation.{clef_mark, key_mark, symbol_mark, tempo_mark, name_mark, short_name_mark, meter_mark, is_attribute, other_of, meaning_of, interpretation_of}
use Rattle.interpretation.specs.declared.Interpretation.{Interpretation}
use Rattle.interpretation.specs.declared.Interpretation.TheVariants.{Nothing, Clef, Key, Meter, Symbol, Tempo, Name, ShortName, Mode}
use Rattle.interpretation.specs.declared.Unsupported.{Unsupported}
use Rattle.interpretation.specs.declared.Unsupported.TheVariants.{InsideBar, OtherClef, OpenKey, OtherKey, OtherMeter, OtherSymbol, OtherTempo, Other}
use Rattle.interpretation.specs.declared.clef.Clef.{Clef as ClefSign}
use Rattle.interpretation.specs.declared.clef.Clef.TheVariants.{Treble, TrebleBelow, TrebleAbove, Bass, BassBelow, Soprano, MezzoSoprano, Alto, Tenor, Baritone, Percussion}
use Rattle.interpretation.specs.declared.meter.Symbol.{Symbol as MeterSymbol}
use Rattle.interpretation.specs.declared.meter.Symbol.TheVariants.{Common, Cut}
use Rattle.interpretation.specs.declared.key.Mode.{Mode as KeyMode}
use Rattle.interpretation.specs.declared.key.Mode.TheVariants.{Major, Minor}
use Rattle.interpretation.specs.Unsupported.{notice_number}

-- the numbers of clefs, signs, modes and notices
pub clef_range : (c : ClefSign) → (1 ≤ clef_number c) × (clef_number c ≤ 11)
clef_range Treble = omega arith
clef_range TrebleBelow = omega arith
clef_range TrebleAbove = omega arith
clef_range Bass = omega arith
clef_range BassBelow = omega arith
clef_range Soprano = omega arith
clef_range MezzoSoprano = omega arith
clef_range Alto = omega arith
clef_range Tenor = omega arith
clef_range Baritone = omega arith
clef_range Percussion = omega arith

pub symbol_range : (s : MeterSymbol) → (1 ≤ symbol_number s) × (symbol_number s ≤ 2)
symbol_range Common = omega arith
symbol_range Cut = omega arith

pub mode_range : (m : KeyMode) → mode_number m ≤ 1
mode_range Major = omega arith
mode_range Minor = omega arith

pub notice_range : (u : Unsupported) → (8 ≤ notice_number u) × (notice_number u ≤ 15)
notice_range InsideBar = omega arith
notice_range OtherClef = omega arith
notice_range OpenKey = omega arith
notice_range OtherKey = omega arith
notice_range OtherMeter = omega arith
notice_range OtherSymbol = omega arith
notice_range OtherTempo = omega arith
notice_range Other = omega arith

abbrev pub Ranged : Interpretation → Type 0
Ranged Nothing = Unit {0}
Ranged (Clef c) = (1 ≤ clef_number c) × (clef_number c ≤ 11)
Ranged (Key z) = unsigned_abs z ≤ 7
Ranged (Meter n d) = (1 ≤ n) × (n ≤ 255) × (d ≤ 128) × (power_of_two d ≡ true)
Ranged (Symbol s) = (1 ≤ symbol_number s) × (symbol_number s ≤ 2)
Ranged (Tempo n) = (1 ≤ n) × (n ≤ 65535)
Ranged Name = Unit {0}
Ranged ShortName = Unit {0}
Ranged (Mode m) = mode_number m ≤ 1

record InRange (r : Result Interpretation Unsupported) : Type 0 where
  range : MatchResult r Ranged (λ u. (8 ≤ notice_number u) × (notice_number u ≤ 15))

either : {x y : Result Interpretation Unsupported} (b : Bool) → InRange x → InRange y → InRange (cond b x y)
either true p q = p
either false p q = q

notice : (u : Unsupported) → InRange (Err u)
notice u = record { range = notice_range u }

clef_in : (s : List ℕ) → InRange (clef_of s)
unfolding clef_of
clef_in s = go (named clefs s)
  where
    go : (o : Option ClefSign) → InRange (ok_or (option_map Clef o) OtherClef)
    go None = notice OtherClef
    go (Some c) = record { range = clef_range c }

symbol_in : (s : List ℕ) → InRange (symbol_of s)
unfolding symbol_of
symbol_in s = go (named symbols s)
  where
    go : (o : Option MeterSymbol) → InRange (ok_or (option_map Symbol o) OtherSymbol)
    go None = notice OtherSymbol
    go (Some c) = record { range = symbol_range c }

signature_range : {s : List ℕ} {r : Result Interpretation Unsupported} → Signature s r → InRange r
signature_range (sharps n h e) = record { range = omega arith }
signature_range (flats n h e) = record { range = omega arith }
signature_range other = notice OtherKey

key_range : (s : List ℕ) → InRange (key_of s)
unfolding key_of
key_range s = either (ends_with 93 s) (signature_range (signature_read (without_last s))) (notice OpenKey)

tonic_range : (b : ℕ) → InRange (tonic_mode b)
unfolding tonic_mode
tonic_range b =
    either (leb 65 b && leb b 71) (record { range = mode_range Major })
    (either (leb 97 b && leb b 103) (record { range = mode_range Minor }) (notice Other))

mode_in : (s : List ℕ) → InRange (mode_of s)
unfolding mode_of
mode_in s =
    either (leb (length (without_last s)) 3 && ends_with 58 s) (tonic_range (get_or (without_last s) 0 0))
    (notice Other)

-- a power of two that a byte holds is 128 at most, by all 256
small_at : ℕ → Bool
small_at k = not (power_of_two k) || leb k 128

power_small : (k : ℕ) → k < 256 → power_of_two k ≡ true → k ≤ 128
unfolding small_at power_of_two power_below
power_small k h e = leb→le k 128 (go (power_of_two k) e (below small_at 256 tt k h))
  where
    go : (b : Bool) → b ≡ true → T (not b || leb k 128) → T (leb k 128)
    go true q t = t
    go false q t = absurd (false≢true q)

from_range : (a b : List ℕ) → InRange (meter_from (byte_number a) (byte_number b))
unfolding meter_from
from_range a b = go (byte_number a) (byte_number b) refl refl
  where
    test : (n d : ℕ) (t : Bool) → n ≤ 255 → d ≤ 255 → (ltb 0 n && power_of_two d) ≡ t → InRange (cond t (Ok (Meter n d)) (Err OtherMeter))
    test n d true h k e =
        let p = both (ltb 0 n) (power_of_two d) e in
        let l : d < 256 = omega arith in
        record { range = (ltb-true 0 n p.0, h, power_small d l p.1, p.1) }
    test n d false h k e = notice OtherMeter

    go : (x y : Option ℕ) → x ≡ byte_number a → y ≡ byte_number b → InRange (meter_from x y)
    go None y e f = notice OtherMeter
    go (Some n) None e f = notice OtherMeter
    go (Some n) (Some d) e f = test n d (ltb 0 n && power_of_two d) (byte_small a e refl) (byte_small b f refl) refl

meter_range : (s : List ℕ) → InRange (meter_of s)
unfolding meter_of
meter_range s =
    either (ltb (index_of 47 s) (length s)) (from_range (take (index_of 47 s) s) (without_plus (drop (suc (index_of 47 s)) s)))
    (notice OtherMeter)

rounded_range : (n unit : ℕ) → 0 < unit → InRange (rounded n unit)
unfolding rounded
rounded_range n unit p = go (leb unit n && leb n (65535 * unit)) refl
  where
    go : (b : Bool) → (leb unit n && leb n (65535 * unit)) ≡ b → InRange (cond b (Ok (Tempo ((2 * n + unit) / (2 * unit)))) (Err OtherTempo))
    go true e =
        let t = both (leb unit n) (leb n (65535 * unit)) e in
        record { range = omega (arith, rounded_least n unit p (leb-true unit n t.0), rounded_most n unit p (leb-true n (65535 * unit) t.1)) }
    go false e = notice OtherTempo

from_tempo : (whole fraction : List ℕ) → InRange (tempo_from whole fraction)
unfolding tempo_from
from_tempo whole fraction =
    either (all_digits (whole ++ fraction) && leb 1 (length (whole ++ fraction)) && leb (length fraction) 9)
    (rounded_range (decimal (whole ++ fraction)) (10 ^ length fraction) (one-le-pow (length fraction) 10 (omega arith)))
    (notice OtherTempo)

other_range : (s : List ℕ) → InRange (other_of s)
unfolding other_of tempo_of
other_range s =
    either (begins_with tempo_mark s) (from_tempo (take (index_of 46 (drop 2 s)) (drop 2 s)) (drop (suc (index_of 46 (drop 2 s))) (drop 2 s)))
    (either (begins_with name_mark s) (record { range = tt })
    (either (begins_with short_name_mark s) (record { range = tt }) (mode_in s)))

meaning_range : (s : List ℕ) → InRange (meaning_of s)
unfolding meaning_of
meaning_range s =
    either (begins_with clef_mark s) (clef_in (drop 4 s))
    (either (begins_with key_mark s) (key_range (drop 2 s))
    (either (meter_mark s) (meter_range (drop 1 s))
    (either (begins_with symbol_mark s) (symbol_in (drop 4 s)) (other_range s))))

read_in : (token : List ℕ) (noted : Bool) → InRange (interpretation_of token noted)
unfolding interpretation_of
read_in token noted =
    either (eqb (length (drop 1 token)) 0) (record { range = tt })
    (either (noted && is_attribute (drop 1 token)) (notice InsideBar) (meaning_range (drop 1 token)))

pub ranged : (token : List ℕ) (noted : Bool) → MatchResult (interpretation_of token noted) Ranged (λ u. (8 ≤ notice_number u) × (notice_number u ≤ 15))
ranged token noted = (read_in token noted).range
