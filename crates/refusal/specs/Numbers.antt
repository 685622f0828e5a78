-- "Answers give: number, line, figure"; 0 for a line or a figure that a question doesn't name.
use Rattle.std.specs.Prelude.{ℕ, List, ◌++◌, decimal, codes}
use Rattle.refusal.specs.declared.Refusal.{Refusal}
use Rattle.refusal.specs.declared.Refusal.TheVariants.{TooLong, NotUtf8, NotExclusive, ManyColumns, NoKern, Uneven, Mixed, StaffFull, ManySpines, ManyNotes, NoHeader, NoNote, ShortBuffer, MixedJoin}

-- the question's number
abbrev pub number_of : Refusal → ℕ
number_of (TooLong n) = 1
number_of (NotUtf8 at) = 2
number_of (NotExclusive k) = 3
number_of (ManyColumns k n) = 4
number_of (NoKern k) = 5
number_of (Uneven k n) = 6
number_of (Mixed k) = 7
number_of (StaffFull k p) = 8
number_of (ManySpines k n) = 9
number_of (ManyNotes k) = 10
number_of NoHeader = 11
number_of NoNote = 12
number_of (ShortBuffer n) = 13
number_of (MixedJoin k c) = 17

-- the line's number
abbrev pub line_of : Refusal → ℕ
line_of (TooLong n) = 0
line_of (NotUtf8 at) = 0
line_of (NotExclusive k) = k
line_of (ManyColumns k n) = k
line_of (NoKern k) = k
line_of (Uneven k n) = k
line_of (Mixed k) = k
line_of (StaffFull k p) = k
line_of (ManySpines k n) = k
line_of (ManyNotes k) = k
line_of NoHeader = 0
line_of NoNote = 0
line_of (ShortBuffer n) = 0
line_of (MixedJoin k c) = k

-- what the question counts or names
abbrev pub figure_of : Refusal → ℕ
figure_of (TooLong n) = n
figure_of (NotUtf8 at) = at
figure_of (NotExclusive k) = 0
figure_of (ManyColumns k n) = n
figure_of (NoKern k) = 0
figure_of (Uneven k n) = n
figure_of (Mixed k) = 0
figure_of (StaffFull k p) = p
figure_of (ManySpines k n) = n
figure_of (ManyNotes k) = 0
figure_of NoHeader = 0
figure_of NoNote = 0
figure_of (ShortBuffer n) = n
figure_of (MixedJoin k c) = c

-- the three as they are printed: in decimal, with a blank between
abbrev pub text_of : Refusal → List ℕ
text_of r = decimal (number_of r) ++ codes " " ++ decimal (line_of r) ++ codes " " ++ decimal (figure_of r)
