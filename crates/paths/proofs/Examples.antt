-- Document 01's worked lines on paths, and edges beside them: two tables, each proved by one computation.
use mathlib.Core.Path.{◌≡◌, refl}
use mathlib.Core.Bool.{Bool, true, false}
use mathlib.Core.List.{List, [], ◌∷◌, ◌++◌, map}
use mathlib.Core.Option.{none, some, bind}
use Prim.Native.Nat.{ℕ, zero, suc}
use lib.ListN.{replicate, take}
use Rattle.paths.specs.declared.PathToken.{PathToken}
use Rattle.paths.specs.declared.PathToken.TheVariants.{Split, Join, Exchange, End, Add, Other}
use Rattle.paths.specs.Record.{Rec, star, plain}
use Rattle.paths.specs.Row.{branch_from, advance, part_at}
use Rattle.paths.specs.declared.Spine.{Spine}
use Rattle.paths.specs.declared.Spine.TheVariants.{Line, Outside}
use Rattle.paths.specs.Joins.{strays, mixed_from}
use Rattle.paths.specs.Voices.{Outcome, next, mixed, voiceless, wide, holds, lowest, with_voice, give_voices, voice_row, step_row}
use Rattle.paths.specs.Trace.{from, branch_of, nowhere, exchanges_right, exchanges_left, follows_join, gives_of, gives, before, width, source_of, source, look_back, origin, origin_in, trace, kerns_before, part_from, part_at_end, part, columns}
use Rattle.paths.specs.TracedVoice.{some_below, lowest_free, kept, given, voice}
use Rattle.paths.specs.Text.{header_from, reached, ended, refused, take_record, read_to}

-- ---- one record: a row, its tokens, what they come to

record Example : Type 0 where
  row : List Spine
  tokens : List PathToken
  outcome : Outcome

example : List Spine → List PathToken → Outcome → Example
example row ts o = record { row = row; tokens = ts; outcome = o }

-- a part's lines with voices 0 to 3
four : ℕ → List Spine
four p = Line p 0 ∷ Line p 1 ∷ Line p 2 ∷ Line p 3 ∷ []

-- n parts of one line each, from part p on
many : ℕ → ℕ → List Spine
many p zero = []
many p (suc n) = Line p 0 ∷ many (suc p) n

examples : List Example
examples =
    -- voices 0 1 2 3 with `*^ *v *v *`: the branch gets 2
    example (four 0) (Split ∷ Join ∷ Join ∷ Other ∷ []) (next (Line 0 0 ∷ Line 0 2 ∷ Line 0 1 ∷ Line 0 3 ∷ []))
    -- with `*^ * * *`: 8
    ∷ example (four 0) (Split ∷ Other ∷ Other ∷ Other ∷ []) (voiceless 0)
    -- voices 0 1 with `*^ *^`: branches 2, 3
    ∷ example (Line 0 0 ∷ Line 0 1 ∷ []) (Split ∷ Split ∷ []) (next (Line 0 0 ∷ Line 0 2 ∷ Line 0 1 ∷ Line 0 3 ∷ []))
    -- a voice that ends to the right of the branch is free
    ∷ example (four 0) (Split ∷ Split ∷ End ∷ End ∷ []) (next (Line 0 0 ∷ Line 0 2 ∷ Line 0 1 ∷ Line 0 3 ∷ []))
    -- `*x` is paired from the left
    ∷ example (many 0 3) (Exchange ∷ Exchange ∷ Exchange ∷ []) (next (Line 1 0 ∷ Line 0 0 ∷ Line 2 0 ∷ []))
    ∷ example (many 0 4) (Exchange ∷ Other ∷ Exchange ∷ Exchange ∷ []) (next (Line 0 0 ∷ Line 1 0 ∷ Line 3 0 ∷ Line 2 0 ∷ []))
    -- a join keeps its first line, of one part or outside kern; a lone `*v` passes
    ∷ example (four 0) (Other ∷ Join ∷ Join ∷ Join ∷ []) (next (Line 0 0 ∷ Line 0 1 ∷ []))
    ∷ example (Outside ∷ Outside ∷ Line 0 0 ∷ []) (Join ∷ Join ∷ Other ∷ []) (next (Outside ∷ Line 0 0 ∷ []))
    ∷ example (many 0 2) (Join ∷ Other ∷ []) (next (many 0 2))
    -- over two parts, or over kern and outside: 17 with the first such run's first column, from 1
    ∷ example (Line 0 0 ∷ Line 0 1 ∷ Line 1 0 ∷ []) (Join ∷ Join ∷ Join ∷ []) (mixed 1)
    ∷ example (Line 0 0 ∷ Outside ∷ Line 1 0 ∷ []) (Join ∷ Join ∷ Other ∷ []) (mixed 1)
    ∷ example (Line 0 0 ∷ Outside ∷ Line 0 1 ∷ []) (Other ∷ Join ∷ Join ∷ []) (mixed 2)
    ∷ example (Line 0 0 ∷ Line 0 1 ∷ many 1 5) (Join ∷ Join ∷ Other ∷ Join ∷ Join ∷ Join ∷ Other ∷ []) (mixed 4)
    -- 17 comes before 8
    ∷ example (four 0 ++ many 1 2) (Split ∷ Other ∷ Other ∷ Other ∷ Join ∷ Join ∷ []) (mixed 5)
    -- outside kern a branch needs no voice, and `*+` adds there
    ∷ example (Outside ∷ Line 0 0 ∷ []) (Split ∷ Add ∷ []) (next (Outside ∷ Outside ∷ Line 0 0 ∷ Outside ∷ []))
    -- two parts of four lines, crossed: the figure of 8 is the part of the first branch
    ∷ example (Line 1 0 ∷ Line 0 0 ∷ Line 1 1 ∷ Line 0 1 ∷ Line 0 2 ∷ Line 1 2 ∷ Line 0 3 ∷ Line 1 3 ∷ []) (Split ∷ Split ∷ replicate 6 Other) (voiceless 1)
    -- 8 comes before 9
    ∷ example (four 0 ++ many 1 252) (Split ∷ replicate 255 Other) (voiceless 0)
    ∷ example (four 0 ++ many 1 252) (Other ∷ Other ∷ Other ∷ Other ∷ Split ∷ replicate 251 Other) (wide 257)
    ∷ []

outcomes : map (λ (e : Example). step_row e.row e.tokens) examples ≡ map (λ (e : Example). e.outcome) examples
unfolding examples example four many part_at strays mixed_from step_row voice_row give_voices holds lowest with_voice advance branch_from
outcomes = refl

-- ---- a text: three columns, of which the second is outside kern, and its records

header : List Bool
header = true ∷ false ∷ true ∷ []

crossing : ℕ → Rec
crossing zero = star (Other ∷ Exchange ∷ Exchange ∷ [])
crossing (suc zero) = plain 3
crossing (suc (suc zero)) = star (Split ∷ Split ∷ Add ∷ [])
crossing (suc (suc (suc zero))) = star (Join ∷ Join ∷ End ∷ End ∷ End ∷ End ∷ [])
crossing (suc (suc (suc (suc zero)))) = star (End ∷ [])
crossing (suc (suc (suc (suc (suc n))))) = plain 7

-- the rows that it reaches, and its end; and the same with a record of two tokens
readings : map (read_to header crossing) (0 ∷ 1 ∷ 2 ∷ 3 ∷ 4 ∷ 5 ∷ 6 ∷ 7 ∷ []) ≡
    reached (Line 0 0 ∷ Outside ∷ Line 1 0 ∷ [])
    ∷ reached (Line 0 0 ∷ Line 1 0 ∷ Outside ∷ [])
    ∷ reached (Line 0 0 ∷ Line 1 0 ∷ Outside ∷ [])
    ∷ reached (Line 0 0 ∷ Line 0 1 ∷ Line 1 0 ∷ Line 1 1 ∷ Outside ∷ Outside ∷ [])
    ∷ reached (Line 0 0 ∷ [])
    ∷ reached []
    ∷ ended
    ∷ ended
    ∷ []
unfolding read_to take_record header_from header crossing part_at strays mixed_from step_row voice_row give_voices holds lowest with_voice advance branch_from
readings = refl

uneven : map (read_to header (λ n. plain 2)) (1 ∷ 2 ∷ []) ≡ refused 6 2 ∷ refused 6 2 ∷ []
unfolding read_to take_record header_from header
uneven = refl

-- backwards: where the columns of `*^ *v *v *x *x *+ *-` and of `*x *x *x` come from, and the parts to which the columns after three records are traced
origins : map (origin (Split ∷ Join ∷ Join ∷ Exchange ∷ Exchange ∷ Add ∷ End ∷ [])) (0 ∷ 1 ∷ 2 ∷ 3 ∷ 4 ∷ 5 ∷ 6 ∷ 7 ∷ []) ≡
    from 0 ∷ branch_of 0 ∷ from 1 ∷ from 4 ∷ from 3 ∷ from 5 ∷ nowhere ∷ nowhere ∷ []
unfolding origin look_back source source_of exchanges_right exchanges_left follows_join gives gives_of before width
origins = refl

thirds : map (origin (Exchange ∷ Exchange ∷ Exchange ∷ [])) (0 ∷ 1 ∷ 2 ∷ 3 ∷ []) ≡ from 1 ∷ from 0 ∷ from 2 ∷ nowhere ∷ []
unfolding origin look_back source source_of exchanges_right exchanges_left follows_join gives gives_of before width
thirds = refl

parts : map (part header crossing 3) (0 ∷ 1 ∷ 2 ∷ 3 ∷ 4 ∷ 5 ∷ 6 ∷ []) ≡ some 0 ∷ some 0 ∷ some 1 ∷ some 1 ∷ none ∷ none ∷ none ∷ []
unfolding header crossing part trace bind part_at_end part_from kerns_before origin_in origin look_back source source_of exchanges_right exchanges_left follows_join gives gives_of before width
parts = refl

-- the voices that the text says: of these, and of one part that splits, frees voice 0 while two lines split, joins and exchanges
voices : map (voice header crossing 3) (0 ∷ 1 ∷ 2 ∷ 3 ∷ 4 ∷ 5 ∷ []) ≡ 0 ∷ 1 ∷ 0 ∷ 1 ∷ 0 ∷ 0 ∷ []
unfolding header crossing voice kept given some_below lowest_free columns part trace bind part_at_end part_from kerns_before origin_in origin look_back source source_of exchanges_right exchanges_left follows_join gives gives_of before width
voices = refl

freeing : ℕ → Rec
freeing zero = star (Split ∷ [])
freeing (suc zero) = star (Split ∷ Other ∷ [])
freeing (suc (suc zero)) = star (End ∷ Split ∷ Split ∷ [])
freeing (suc (suc (suc n))) = star (Join ∷ Join ∷ Exchange ∷ Exchange ∷ [])

abbrev voices_of : ℕ → ℕ → List ℕ
voices_of n w = map (voice (true ∷ []) freeing n) (take w (0 ∷ 1 ∷ 2 ∷ 3 ∷ []))

freed : (voices_of 1 2 ++ voices_of 2 3 ++ voices_of 3 4 ++ voices_of 4 3) ≡ (0 ∷ 1 ∷ []) ++ (0 ∷ 2 ∷ 1 ∷ []) ++ (2 ∷ 0 ∷ 1 ∷ 3 ∷ []) ++ (2 ∷ 3 ∷ 1 ∷ [])
unfolding freeing voice kept given some_below lowest_free columns part trace bind part_at_end part_from kerns_before origin_in origin look_back source source_of exchanges_right exchanges_left follows_join gives gives_of before width
freed = refl
