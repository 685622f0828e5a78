-- Tokens `*x`, paired from the left.
use mathlib.Core.Path.{◌≡◌, refl, sym, ap, ◌∙◌}
use Prim.Native.Nat.{ℕ, zero, suc, ◌+◌, ◌-◌, ◌<◌}
use native.Mathlib.Omega.{arith}
use mathlib.Core.Bool.{Bool, true, false, ◌&&◌, not, and-true}
use mathlib.Core.List.{List, ◌∷◌}
use lib.ListN.{take, drop}
use Rattle.slices.specs.Split.{pieces}
use Rattle.lines.proofs.PieceLaws.{Piece}
use Rattle.paths.specs.declared.PathToken.{PathToken}
use Rattle.paths.specs.declared.PathToken.TheVariants.{Other}
use Rattle.paths.specs.Token.{path_token, is_exchange}
use Rattle.paths.specs.Trace.{token_at, exchanges_right, exchanges_left}
use Rattle.spines.specs.Tokens.{path_tokens, at_hand}

-- ---- the token at hand

-- the token ahead
pub ahead_is : (n : ℕ) (ts us : List (List ℕ)) {t : PathToken} {r : Bool} → path_tokens n ts ≡ at_hand n t us → (n ≡ 0 → t ≡ Other) → r ≡ is_exchange t
    → r ≡ is_exchange (token_at (path_tokens n ts) 0)
unfolding path_tokens at_hand
ahead_is zero ts us e z q = q ∙ ap is_exchange (z refl)
ahead_is (suc n) ts us e z q = q ∙ sym (ap (λ (ps : List PathToken). is_exchange (token_at ps 0)) e)

-- the tokens from one on
pub tokens_at : {n from e : ℕ} {text : List ℕ} → 0 < n → Piece 9 text from e
    → path_tokens n (pieces 9 from text) ≡ path_token (take (e - from) (drop from text)) ∷ path_tokens (n - 1) (pieces 9 (e + 1) text)
unfolding path_tokens
tokens_at {n} {from} {e} {text} low piece = ap (path_tokens n) piece.here ∙ go n low
  where
    go : (m : ℕ) → 0 < m → path_tokens m (take (e - from) (drop from text) ∷ pieces 9 (e + 1) text)
        ≡ path_token (take (e - from) (drop from text)) ∷ path_tokens (m - 1) (pieces 9 (e + 1) text)
    go zero h = absurd (omega arith)
    go (suc m) h = let z : suc m - 1 ≡ m = omega arith in sym (rw z)

pub exchange_here : {n from e : ℕ} {text : List ℕ} {t : PathToken} {r : Bool} → 0 < n → Piece 9 text from e → t ≡ path_token (take (e - from) (drop from text)) → r ≡ is_exchange t
    → r ≡ is_exchange (token_at (path_tokens n (pieces 9 from text)) 0)
exchange_here low piece p q = q ∙ ap is_exchange p ∙ sym (ap (λ (ts : List PathToken). is_exchange (token_at ts 0)) (tokens_at low piece))

-- ---- with the one to its right

pub right_not : (ps : List PathToken) (left : Bool) {x : Bool} → x ≡ is_exchange (token_at ps 0) → x ≡ false
    → false ≡ (is_exchange (token_at ps 0) && is_exchange (token_at ps 1) && not left)
right_not ps left p q = sym (rw (sym p ∙ q))

right_by : (b left : Bool) → left ≡ false → b ≡ (true && b && not left)
right_by true left e = sym (rw e)
right_by false left e = refl

pub right_is : {n from e : ℕ} {text : List ℕ} {left x r : Bool} → 0 < n → Piece 9 text from e → left ≡ false
    → x ≡ is_exchange (token_at (path_tokens n (pieces 9 from text)) 0) → x ≡ true
    → r ≡ is_exchange (token_at (path_tokens (n - 1) (pieces 9 (e + 1) text)) 0)
    → r ≡ (is_exchange (token_at (path_tokens n (pieces 9 from text)) 0) && is_exchange (token_at (path_tokens n (pieces 9 from text)) 1) && not left)
right_is {n} {from} {e} {text} {left} {x} {r} low piece l p q s =
    let one : r ≡ is_exchange (token_at (path_tokens n (pieces 9 from text)) 1)
    = s ∙ sym (ap (λ (ts : List PathToken). is_exchange (token_at ts 1)) (tokens_at low piece)) in
    one ∙ right_by (is_exchange (token_at (path_tokens n (pieces 9 from text)) 1)) left l
    ∙ ap (λ (b : Bool). b && is_exchange (token_at (path_tokens n (pieces 9 from text)) 1) && not left) (sym q ∙ p)

-- ---- among all

pub right_all : (ps : List PathToken) (i : ℕ) → exchanges_right ps i ≡ (is_exchange (token_at ps i) && is_exchange (token_at ps (suc i)) && not (exchanges_left ps i))
unfolding exchanges_right exchanges_left
right_all ps zero = sym (and-true (is_exchange (token_at ps 0) && is_exchange (token_at ps 1)))
right_all ps (suc i) = refl

pub left_first : (ps : List PathToken) → false ≡ exchanges_left ps 0
unfolding exchanges_left
left_first ps = refl

pub left_next : (ps : List PathToken) (i : ℕ) → exchanges_left ps (suc i) ≡ exchanges_right ps i
unfolding exchanges_left
left_next ps i = refl
