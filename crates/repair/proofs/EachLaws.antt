-- Chains over a line's tokens: a test of each; and what the line's first byte says of its first token.
use mathlib.Core.Path.{◌≡◌, refl, sym, ap, ◌∙◌}
use Prim.Native.Nat.{ℕ, zero, suc, ◌+◌, ◌-◌, ◌≤◌, ◌<◌}
use native.Mathlib.Omega.{arith}
use native.Mathlib.Numerals.{unary_clauses}
use mathlib.Core.List.{List, [], ◌∷◌, head_d}
use mathlib.Core.Bool.{Bool, true, false, ◌&&◌}
use lib.Dec.{eqb}
use lib.ListN.{length, take, drop, get_or, drop_of_length-le}
use borrow.Author.Tests.{eq-eqb, ne_eqb, eqb-true}
use Rattle.slices.specs.Split.{join, split, index_of}
use Rattle.slices.specs.Compare.{begins_with, same_bytes}
use Rattle.slices.proofs.SplitLaws.{first_piece, at_index}
use Rattle.lines.specs.Lines.{piece_end}
use Rattle.lines.specs.Tokens.{tokens_of, is_star, is_empty}
use Rattle.std.specs.List.{list_all}
use denote.Enum.Bare.{sameb}
use Rattle.paths.specs.contracts.PathToken.{the_type}
use Rattle.paths.specs.declared.PathToken.{PathToken}
use Rattle.paths.specs.declared.PathToken.TheVariants.{Split, Join, Exchange, End, Add, Other}
use Rattle.repair.specs.Repair.{each, first_of, is_bar, is_other, is_ordinary, identical_bars}

-- the library's test of each
pub list_all_each : (test : List ℕ → Bool) (ts : List (List ℕ)) → list_all test ts ≡ each test ts
unfolding each
list_all_each test [] = refl
list_all_each test (t ∷ ts) = ap (λ (b : Bool). test t && b) (list_all_each test ts)

-- what `==` says of a token that is none of the five
pub other_same : (t : PathToken) → sameb the_type t Other ≡ is_other t
other_same Split = refl
other_same Join = refl
other_same Exchange = refl
other_same End = refl
other_same Add = refl
other_same Other = refl

-- a line begins with the byte with which its first token begins
begins_first : (b : ℕ) → (b ≡ 9 → ⊥) → (s : List ℕ) → begins_with (b ∷ []) s ≡ begins_with (b ∷ []) (first_of (tokens_of s))
unfolding begins_with split join head_d
begins_first b n [] = refl
begins_first b n (x ∷ xs) = go (eqb x 9) refl (split 9 xs)
  where
    go : (t : Bool) → eqb x 9 ≡ t → (ps : List (List ℕ)) → (eqb x b && true) ≡ begins_with (b ∷ []) (first_of (join t x ps))
    go true e ps = rw (ne_eqb x b (λ q. n (sym q ∙ eqb-true x 9 e)))
    go false e [] = refl
    go false e (p ∷ ps) = refl

pub star_first : (s : List ℕ) → is_star s ≡ is_star (first_of (tokens_of s))
unfolding is_star
star_first s = begins_first 42 (λ e. omega arith) s

pub bar_none : (s : List ℕ) → length s ≡ 0 → is_bar s ≡ false
unfolding is_bar begins_with
bar_none [] z = refl
bar_none (x ∷ s) z = absurd (omega arith)

pub bar_not : (s : List ℕ) → (get_or s 0 0 ≡ 61 → ⊥) → is_bar s ≡ false
unfolding is_bar begins_with
bar_not [] n = refl
bar_not (x ∷ s) n = rw (ne_eqb x 61 n)

pub bar_is : (s : List ℕ) → (length s ≡ 0 → ⊥) → get_or s 0 0 ≡ 61 → is_bar s ≡ true
unfolding is_bar begins_with
bar_is [] some e = absurd (some refl)
bar_is (x ∷ s) some e = rw (eq-eqb x 61 e)

-- the first token
pub first_token : (s : List ℕ) (e : ℕ) → e ≡ piece_end 9 s 0 → first_of (tokens_of s) ≡ take e s
unfolding head_d
first_token s e h =
    let z : index_of 9 s ≡ e = omega arith in
    ap (λ (ps : List (List ℕ)). first_of ps) (first_piece 9 s) ∙ ap (λ (k : ℕ). take k s) z

pub bar_first : (s : List ℕ) → is_bar s ≡ is_bar (first_of (tokens_of s))
unfolding is_bar
bar_first s = begins_first 61 (λ e. omega arith) s

-- a line that begins neither `*` nor `=` is not filled
pub not_ordinary : (line : List ℕ) → is_star line ≡ false → each is_ordinary (tokens_of line) ≡ false
unfolding head_d each is_ordinary
not_ordinary line e =
    let f : is_star (take (index_of 9 line) line) ≡ false = rw (first_piece 9 line) at (sym (star_first line) ∙ e) in
    rw (first_piece 9 line, f)

pub not_bars : (ts : List (List ℕ)) → is_bar (first_of ts) ≡ false → identical_bars ts ≡ false
unfolding identical_bars
not_bars ts e = rw e

-- ---- a pass over a line's bytes: what decides is the tokens from i on, behind the first n of them
tab_turn : (n : ℕ) (ts : List (List ℕ)) → each is_empty (drop n ([] ∷ ts)) ≡ each is_empty (drop (n - 1) ts)
unfolding each is_empty same_bytes
tab_turn zero ts = refl
tab_turn (suc n) ts = simp unary_clauses refl

byte_turn : (n x : ℕ) (ps : List (List ℕ)) → (n ≡ 0 → ⊥) → each is_empty (drop n (join false x ps)) ≡ each is_empty (drop n ps)
unfolding join
byte_turn zero x ps some = absurd (some refl)
byte_turn (suc zero) x [] some = refl
byte_turn (suc (suc n)) x [] some = refl
byte_turn (suc n) x (p ∷ ps) some = refl

byte_stop : (x : ℕ) (ps : List (List ℕ)) → each is_empty (join false x ps) ≡ false
unfolding join each is_empty same_bytes
byte_stop x [] = refl
byte_stop x (p ∷ ps) = refl

none_left : (n : ℕ) → each is_empty (drop n ([] ∷ [])) ≡ true
unfolding each is_empty same_bytes
none_left zero = refl
none_left (suc zero) = refl
none_left (suc (suc n)) = refl

pub blank_tab : {b : Bool} (s : List ℕ) (i n m : ℕ) → i < length s → get_or s i 0 ≡ 9 → m ≡ n - 1
    → b ≡ each is_empty (drop n (tokens_of (drop i s))) → b ≡ each is_empty (drop m (tokens_of (drop (i + 1) s)))
unfolding split join
blank_tab s i n m h tab less e = rw (less) (rw (at_index s i h, tab) at e ∙ tab_turn n (tokens_of (drop (i + 1) s)))

pub blank_byte : {b : Bool} (s : List ℕ) (i n : ℕ) → i < length s → (get_or s i 0 ≡ 9 → ⊥) → (n ≡ 0 → ⊥)
    → b ≡ each is_empty (drop n (tokens_of (drop i s))) → b ≡ each is_empty (drop n (tokens_of (drop (i + 1) s)))
unfolding split
blank_byte s i n h other some e = rw (at_index s i h, ne_eqb (get_or s i 0) 9 other) at e ∙ byte_turn n (get_or s i 0) (tokens_of (drop (i + 1) s)) some

pub blank_stop : {b : Bool} (s : List ℕ) (i n : ℕ) → i < length s → (get_or s i 0 ≡ 9 → ⊥) → n ≡ 0
    → b ≡ each is_empty (drop n (tokens_of (drop i s))) → b ≡ false
unfolding split
blank_stop s i n h other none e = rw (none, at_index s i h, ne_eqb (get_or s i 0) 9 other) at e ∙ byte_stop (get_or s i 0) (tokens_of (drop (i + 1) s))

pub blank_end : {b : Bool} (s : List ℕ) (i n : ℕ) → length s ≤ i → b ≡ each is_empty (drop n (tokens_of (drop i s))) → b ≡ true
unfolding split
blank_end s i n h e = rw (drop_of_length-le s {i = i} h) at e ∙ none_left n
