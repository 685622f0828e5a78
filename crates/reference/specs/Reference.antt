-- A reference record behind its `!!!`.
use Rattle.std.specs.Prelude.{ℕ, ◌+◌, cond, List, length, take, drop}
use Rattle.slices.specs.Split.{index_of}
use Rattle.slices.specs.Ascii.{ascii}
use Rattle.slices.specs.Compare.{same_bytes}
use Rattle.reference.specs.Trim.{trimmed, trimmed_at}
use Rattle.reference.specs.declared.Key.{Key}
use Rattle.reference.specs.declared.Key.TheVariants.{Title, Composer, Lyricist, Other}
use Rattle.reference.specs.declared.Span.{Span}
use Rattle.reference.specs.declared.Reference.{Reference}

-- document 01, "Reading a record": OTL, COM, LYR set title, composer, lyricist
unfoldable pub key_of : List ℕ → Key
key_of k =
    cond (same_bytes (ascii "OTL") k) Title
    (cond (same_bytes (ascii "COM") k) Composer
    (cond (same_bytes (ascii "LYR") k) Lyricist
    Other))

-- the bytes before the first `:` (58), all of them where there is none
abbrev pub key_part : List ℕ → List ℕ
key_part s = take (index_of 58 s) s

-- the bytes behind the first `:`, none where there is none
abbrev pub value_part : List ℕ → List ℕ
value_part s = drop (index_of 58 s + 1) s

-- the trimmed text of a piece that begins at `from`
unfoldable pub span_of : ℕ → List ℕ → Span
span_of from s = record { at = trimmed_at from s; len = length (trimmed s) }

-- document 01, "Reading a record": split at the first `:`; key and value lose white space at both ends
unfoldable pub reference_of : List ℕ → Reference
reference_of s = record {
  key = key_of (trimmed (key_part s));
  key_span = span_of 0 (key_part s);
  value_span = span_of (index_of 58 s + 1) (value_part s);
}
