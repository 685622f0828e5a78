-- What fills a staff as the code goes: over the record's tokens and the row's spines once for the lines, once for the branches.
use Rattle.std.specs.Prelude.{Bool, true, false, cond, ◌&&◌, not, List, [], ◌∷◌, ◌++◌, ℕ, zero, suc, ◌+◌, eqb, ltb, length, take, Option, Some, None}
use Rattle.paths.specs.declared.PathToken.{PathToken}
use Rattle.paths.specs.declared.PathToken.TheVariants.{Split, Join, Exchange, End, Add, Other}
use Rattle.paths.specs.declared.Spine.{Spine}
use Rattle.paths.specs.declared.Spine.TheVariants.{Line, Branch, Outside}
use Rattle.paths.specs.Token.{is_join}
use Rattle.holders.specs.Voice.{free_voice}
use Rattle.holders.specs.declared.list.Holder.{Holder}
use Rattle.holders.specs.declared.list.Holders.{Holders}

-- the list that the array and the count say
abbrev pub listed : Holders → List Holder
listed hs = take hs.count hs.list

-- one more, where there is room for it
unfoldable pub put : List Holder → Holder → List Holder
put hs x = cond (ltb (length hs) 5) (hs ++ (x ∷ [])) hs

-- "`*-` ends", "a run of adjacent `*v` keeps the first": `follows` says whether a `*v` stands to the left
abbrev pub carries : PathToken → Bool → Bool
carries Split follows = true
carries Join follows = not follows
carries Exchange follows = true
carries End follows = false
carries Add follows = true
carries Other follows = true

abbrev pub is_split : PathToken → Bool
is_split Split = true
is_split Join = false
is_split Exchange = false
is_split End = false
is_split Add = false
is_split Other = false

-- the voice that a line has
abbrev pub voice_of : Spine → ℕ
voice_of (Line p v) = v
voice_of (Branch p) = 0
voice_of Outside = 0

-- a line of part p
abbrev pub is_of : ℕ → Spine → Bool
is_of p (Line q v) = eqb p q
is_of p (Branch q) = false
is_of p Outside = false

-- the voice of a line of part p
abbrev pub line_voice : ℕ → Spine → Option ℕ
line_voice p (Line q v) = cond (eqb p q) (Some v) None
line_voice p (Branch q) = None
line_voice p Outside = None

-- part p, whose header column is c
module _ (p c : ℕ) where
  abbrev pub entry : ℕ → ℕ → Holder
  entry column v = record { column = column; voice = v; header = c }

  abbrev pub line_step : List Holder → ℕ → Bool → PathToken → Spine → List Holder
  line_step hs column follows t s = cond (is_of p s && carries t follows) (put hs (entry column (voice_of s))) hs

  -- from column i (from 0) on
  unfoldable pub lines_from : List Holder → ℕ → Bool → List PathToken → List Spine → List Holder
  lines_from hs i follows [] row = hs
  lines_from hs i follows (t ∷ ts) [] = hs
  lines_from hs i follows (t ∷ ts) (s ∷ row) = lines_from (line_step hs (i + 1) follows t s) (suc i) (is_join t) ts row

  unfoldable pub branches_from : List Holder → ℕ → List PathToken → List Spine → List Holder
  branches_from hs i [] row = hs
  branches_from hs i (t ∷ ts) [] = hs
  branches_from hs i (t ∷ ts) (s ∷ row) =
      let more = put hs (entry (i + 1) (free_voice hs)) in
      cond (is_of p s && is_split t) (cond (eqb (free_voice hs) 4) more (branches_from more (suc i) ts row)) (branches_from hs (suc i) ts row)

  -- the lines, then the branches
  unfoldable pub walked : List PathToken → List Spine → List Holder
  walked ts row = branches_from (lines_from [] 0 false ts row) 0 ts row

-- a column from 1, 0 for none
abbrev pub or_zero : Option ℕ → ℕ
or_zero None = 0
or_zero (Some c) = c

-- the column, from 1, of the `**kern` that has q before it, where i columns stand before the first; 0 where there is none
unfoldable pub kern_column : ℕ → ℕ → List Bool → ℕ
kern_column i q [] = 0
kern_column i zero (true ∷ h) = i + 1
kern_column i (suc q) (true ∷ h) = kern_column (suc i) q h
kern_column i q (false ∷ h) = kern_column (suc i) q h
