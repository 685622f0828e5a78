-- The branches of the next row, left to right, are those of the columns with a `*^`.
use mathlib.Core.Path.{◌≡◌, refl, ap, ap₂, ◌∙◌}
use mathlib.Core.Bool.{Bool, true, false, cond, ◌&&◌}
use mathlib.Core.List.{List, [], ◌∷◌, ◌++◌, map}
use mathlib.Core.Option.{Option, bind}
use Prim.Native.Nat.{ℕ, suc, ◌+◌}
use native.Mathlib.Omega.{arith}
use lib.ListN.{length, get_or}
use Rattle.slices.proofs.TestLaws.{clash}
use Rattle.paths.specs.declared.PathToken.{PathToken}
use Rattle.paths.specs.declared.PathToken.TheVariants.{Split, Join, Exchange, End, Add, Other}
use Rattle.paths.specs.Row.{spine_at}
use Rattle.paths.specs.declared.Spine.{Spine}
use Rattle.paths.specs.Token.{is_exchange}
use Rattle.paths.specs.Trace.{Origin, nowhere, column_of, is_part}
use Rattle.paths.specs.Walk.{Mode, alone, joining, exchanging, act, after, starts_exchange}
use Rattle.paths.proofs.Origins.{origins_of, origins}
use Rattle.holders.specs.Holders.{those_from, is_branch_of, parent_of}
use Rattle.holders.specs.Walk.{is_split, is_of}

-- the columns, from column i on, of the lines of part q that have a `*^`
unfoldable pub forks : ℕ → ℕ → List PathToken → List Spine → List ℕ
forks q i [] row = []
forks q i (t ∷ ts) [] = []
forks q i (t ∷ ts) (s ∷ row) = cond (is_of q s && is_split t) (i ∷ forks q (suc i) ts row) (forks q (suc i) ts row)

-- part q, where the part of each column is given
module _ (q : ℕ) (part_at : ℕ → Option ℕ) where
  abbrev pub is_fork : Origin → Bool
  is_fork o = is_branch_of o && is_part q (bind (column_of o) part_at)

  -- the columns of the branches among some origins
  unfoldable pub gathered : List Origin → List ℕ
  gathered [] = []
  gathered (o ∷ os) = cond (is_fork o) (parent_of o ∷ gathered os) (gathered os)

  gathered_append : (a b : List Origin) → gathered (a ++ b) ≡ gathered a ++ gathered b
  unfolding gathered
  gathered_append [] b = refl
  gathered_append (o ∷ a) b = go (is_fork o) (gathered_append a b)
    where
      go : (x : Bool) → gathered (a ++ b) ≡ gathered a ++ gathered b
          → cond x (parent_of o ∷ gathered (a ++ b)) (gathered (a ++ b)) ≡ cond x (parent_of o ∷ gathered a) (gathered a) ++ gathered b
      go true e = ap (λ (l : List ℕ). parent_of o ∷ l) e
      go false e = e

  -- the numbers of those columns, from the one of number k on, and then their origins' columns
  pub those_gathered : (test : ℕ → Bool) (parent : ℕ → ℕ) (k : ℕ) (os : List Origin) → ((e : ℕ) → test (k + e) ≡ is_fork (get_or os e nowhere))
      → ((e : ℕ) → parent (k + e) ≡ parent_of (get_or os e nowhere)) → map parent (those_from test k (length os)) ≡ gathered os
  unfolding those_from gathered
  those_gathered test parent k [] f g = refl
  those_gathered test parent k (o ∷ os) f g =
      let z : k + 0 ≡ k = omega arith in
      rw (rw z at (f 0)) (go (is_fork o) (rw z at (g 0)) (those_gathered test parent (suc k) os (λ e. let y : suc k + e ≡ k + suc e = omega arith in rw y (f (suc e))) (λ e. let y : suc k + e ≡ k + suc e = omega arith in rw y (g (suc e)))))
    where
      go : (x : Bool) → parent k ≡ parent_of o → map parent (those_from test (suc k) (length os)) ≡ gathered os
          → map parent (cond x (k ∷ those_from test (suc k) (length os)) (those_from test (suc k) (length os))) ≡ cond x (parent_of o ∷ gathered os) (gathered os)
      go true a e = ap₂ (λ (n : ℕ) (l : List ℕ). n ∷ l) a e
      go false a e = e

  -- what a token gives
  abbrev own : Bool → ℕ → List ℕ
  own x i = cond (x && is_part q (part_at i)) (i ∷ []) []

  block : (m : Mode) (t : PathToken) (x : Bool) (i : ℕ) → (m ≡ exchanging → is_split t ≡ false) → gathered (origins_of (act m t x) i) ≡ own (is_split t) i
  unfolding gathered bind
  block exchanging Split x i n = clash (let z = n refl in cc)
  block exchanging Join x i n = refl
  block exchanging Exchange x i n = refl
  block exchanging End x i n = refl
  block exchanging Add x i n = refl
  block exchanging Other x i n = refl
  block alone Split x i n = refl
  block alone Join x i n = refl
  block alone Exchange true i n = refl
  block alone Exchange false i n = refl
  block alone End x i n = refl
  block alone Add x i n = refl
  block alone Other x i n = refl
  block joining Split x i n = refl
  block joining Join x i n = refl
  block joining Exchange true i n = refl
  block joining Exchange false i n = refl
  block joining End x i n = refl
  block joining Add x i n = refl
  block joining Other x i n = refl

  -- only before an `*x` is the next one the right one of two that exchange
  exchanged : (m : Mode) (t : PathToken) (x : Bool) → after m t x ≡ exchanging → x ≡ true
  exchanged exchanging t x e = clash cc
  exchanged alone Split x e = clash cc
  exchanged alone Join x e = clash cc
  exchanged alone Exchange true e = refl
  exchanged alone Exchange false e = clash cc
  exchanged alone End x e = clash cc
  exchanged alone Add x e = clash cc
  exchanged alone Other x e = clash cc
  exchanged joining Split x e = clash cc
  exchanged joining Join x e = clash cc
  exchanged joining Exchange true e = refl
  exchanged joining Exchange false e = clash cc
  exchanged joining End x e = clash cc
  exchanged joining Add x e = clash cc
  exchanged joining Other x e = clash cc

  no_split : (t : PathToken) → is_exchange t ≡ true → is_split t ≡ false
  no_split Split e = clash cc
  no_split Join e = refl
  no_split Exchange e = refl
  no_split End e = refl
  no_split Add e = refl
  no_split Other e = refl

  pub gathered_forks : (m : Mode) (i : ℕ) (ts : List PathToken) (row : List Spine) → length ts ≡ length row → ((e : ℕ) → is_part q (part_at (i + e)) ≡ is_of q (spine_at row e))
      → (m ≡ exchanging → starts_exchange ts ≡ true) → gathered (origins m i ts) ≡ forks q i ts row
  unfolding gathered origins forks
  gathered_forks m i [] row l p n = refl
  gathered_forks m i (t ∷ ts) [] l p n = absurd (omega arith)
  gathered_forks m i (t ∷ ts) (s ∷ row) l p n =
      let z : i + 0 ≡ i = omega arith in
      gathered_append (origins_of (act m t (starts_exchange ts)) i) (origins (after m t (starts_exchange ts)) (suc i) ts)
      ∙ ap₂ (λ (a b : List ℕ). a ++ b) (block m t (starts_exchange ts) i (λ e. no_split t (n e)))
      (gathered_forks (after m t (starts_exchange ts)) (suc i) ts row (omega arith) (λ e. let y : suc i + e ≡ i + suc e = omega arith in rw y (p (suc e))) (exchanged m t (starts_exchange ts)))
      ∙ go (is_split t) (is_part q (part_at i)) (is_of q s) (rw z at (p 0))
    where
      go : (x a b : Bool) → a ≡ b → cond (x && a) (i ∷ []) [] ++ forks q (suc i) ts row ≡ cond (b && x) (i ∷ forks q (suc i) ts row) (forks q (suc i) ts row)
      go true true b e = rw (← e)
      go true false b e = rw (← e)
      go false a true e = refl
      go false a false e = refl
