-- What a token says, aspect by aspect.
use Rattle.std.specs.Prelude.{List, ℕ, length}
use Rattle.slices.specs.Ascii.{ascii}
use Rattle.items.specs.Items.{items}
use Rattle.items.specs.declared.Item.{Item}
use Rattle.token.specs.declared.scan.Scan.{Scan}
use Rattle.token.specs.Token.{is_bad, first_sub, is_silent, given_in, dots_of, rest_of, marks, any_of, grace_from, articulations_of, pitches_of, signifiers_of}

-- the aspects of a token: "tie start, tie end, slur start, slur end" are `ties`, `tied`, `slurs`, `slurred`
unfoldable pub scan_items : List Item → Scan
scan_items is =
    record {
      bad = is_bad is;
      silent = is_silent is;
      given = given_in (first_sub is);
      dots = dots_of is;
      rest = rest_of is;
      pitches = length (pitches_of is);
      signifiers = length (signifiers_of is);
      ties = any_of (ascii "[_") (marks is);
      tied = any_of (ascii "]_") (marks is);
      slurs = any_of (ascii "(") (marks is);
      slurred = any_of (ascii ")") (marks is);
      grace = grace_from 0 (marks is);
      articulations = length (articulations_of is);
    }

abbrev pub scan_of : List ℕ → Scan
scan_of token = scan_items (items token)
