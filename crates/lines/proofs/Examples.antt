-- The definitions on small lines and tokens.
use mathlib.Core.Path.{◌≡◌, refl}
use mathlib.Core.Bool.{false}
use mathlib.Core.List.{[], ◌∷◌}
use Rattle.slices.specs.Split.{join, split}
use Rattle.slices.specs.Compare.{begins_with, same_bytes}
use Rattle.slices.specs.Ascii.{ascii}
use Rattle.lines.specs.Lines.{lines_of, keep, without_crs, kind_of}
use Rattle.lines.specs.Tokens.{tokens_of, is_null, is_kern}
use Rattle.lines.specs.declared.Kind.TheVariants.{Reference, Comment, Bar, Data}

-- a last LF leaves an empty line behind it
lines : lines_of (ascii "4c\r\n\n") ≡ ascii "4c\r" ∷ [] ∷ [] ∷ []
unfolding split join
lines = refl

inner_cr : without_crs (ascii "4c\r\t4e\r\r") ≡ ascii "4c\r\t4e"
unfolding without_crs keep
inner_cr = refl

tokens : tokens_of (ascii "4c 4e\t\t.") ≡ ascii "4c 4e" ∷ [] ∷ ascii "." ∷ []
unfolding split join
tokens = refl

two_bangs : kind_of (ascii "!!x") ≡ Comment
unfolding kind_of begins_with same_bytes
two_bangs = refl

reference : kind_of (ascii "!!!OTL") ≡ Reference
unfolding kind_of begins_with same_bytes
reference = refl

bar : kind_of (ascii "=1\t=1") ≡ Bar
unfolding kind_of begins_with same_bytes
bar = refl

inner_bang : kind_of (ascii "4c\t!x") ≡ Data
unfolding kind_of begins_with same_bytes
inner_bang = refl

two_dots : is_null (ascii "..") ≡ false
unfolding is_null same_bytes
two_dots = refl

blank_behind : is_kern (ascii "**kern ") ≡ false
unfolding is_kern same_bytes
blank_behind = refl
