-- Reference records and the header.
use Rattle.std.specs.Prelude.{ℕ, suc, ◌+◌, Bool, true, false, cond, not, List, [], ◌∷◌, map, ltb, length, drop}
use Rattle.lines.specs.Tokens.{tokens_of, is_kern, is_exclusive}
use Rattle.reference.specs.Reference.{reference_of}
use Rattle.reference.specs.declared.Reference.{Reference}
use Rattle.reference.specs.declared.Key.{Key}
use Rattle.reference.specs.declared.Key.TheVariants.{Title, Composer, Lyricist, Other}
use Rattle.paths.specs.Text.{header_row}
use Rattle.repair.specs.Repair.{each}
use Rattle.sheet.specs.Record.{span_of}
use Rattle.sheet.specs.declared.Span.{Span}
use Rattle.reading.specs.State.{State, Result, Step, refused, goes, fresh_part, with_row, with_parts, with_title, with_composer, with_lyricist}
use Rattle.reading.specs.declared.Part.{Part}
use Rattle.reading.specs.Notices.{Token, placed, span_of_token, quiet, after, keep, notify}

-- ---- "`!!!` lines": "OTL, COM, LYR set title, composer, lyricist, the last one winning; other keys give notice 1"

abbrev pub key_span : ℕ → Reference → Span
key_span at r = span_of (at + r.key_span.at) r.key_span.len

abbrev pub value_span : ℕ → Reference → Span
value_span at r = span_of (at + r.value_span.at) r.value_span.len

-- `key` is "filled only for 1, with the trimmed key"
abbrev pub by_key : Key → ℕ → Span → Span → State → Result
by_key Title k value key st = quiet (with_title st value)
by_key Composer k value key st = quiet (with_composer st value)
by_key Lyricist k value key st = quiet (with_lyricist st value)
by_key Other k value key st = keep (record { number = 1; column = 0; line = k; value = value; key = key }) [] st

-- a reference record on line k, which begins at an offset of the text
unfoldable pub read_reference : ℕ → ℕ → List ℕ → State → Result
read_reference k at line st =
    let r = reference_of (drop 3 line) in by_key r.key k (value_span (at + 3) r) (key_span (at + 3) r) st

-- ---- "the header, the first record neither empty nor begun by `!`"

-- "2 spine not kern", by column from j on
unfoldable pub notice_others : ℕ → ℕ → List Token → State → Result
notice_others k j [] st = quiet st
notice_others k j (t ∷ ts) st =
    cond (is_kern t.bytes) (notice_others k (suc j) ts st)
    (after (notify 2 k j (span_of_token t) st) (notice_others k (suc j) ts))

unfoldable pub fresh_parts : ℕ → List Bool → List Part
fresh_parts p [] = []
fresh_parts p (true ∷ ks) = fresh_part p ∷ fresh_parts (suc p) ks
fresh_parts p (false ∷ ks) = fresh_parts p ks

unfoldable pub any_kern : List Bool → Bool
any_kern [] = false
any_kern (true ∷ ks) = true
any_kern (false ∷ ks) = any_kern ks

-- questions 3, 4 and 5, in this order
unfoldable pub read_header : ℕ → ℕ → List ℕ → State → Step
read_header k at line st =
    let ts = tokens_of line in
    let ks = map is_kern ts in
    cond (not (each is_exclusive ts)) (refused 3 k 0)
    (cond (ltb 256 (length ts)) (refused 4 k (length ts))
    (cond (not (any_kern ks)) (refused 5 k 0)
    (goes (notice_others k 1 (placed at ts) (with_parts (with_row st (header_row ks)) (fresh_parts 0 ks))))))
