-- Document 01's edges of interpretations and others, one table and one fact over it.
use Prim.Native.Nat.{ℕ}
use mathlib.Core.Bool.{Bool, true, false, ◌&&◌}
use mathlib.Core.List.{List, [], ◌∷◌}
use lib.Dec.{T}
use lib.IntN.{pos, negsuc}
use mir.Syntax.{w8}
use mir.Val.{of_z}
use Rattle.std.proofs.Common.{Ok, Err, Result}
use Rattle.slices.specs.Ascii.{ascii}
use Rattle.slices.specs.Compare.{same_bytes}
use Rattle.interpretation.specs.declared.Interpretation.{Interpretation}
use Rattle.interpretation.specs.declared.Interpretation.TheVariants.{Nothing, Clef, Key, Meter, Symbol, Tempo, Name, ShortName, Mode}
use Rattle.interpretation.specs.declared.Unsupported.{Unsupported}
use Rattle.interpretation.specs.declared.Unsupported.TheVariants.{InsideBar, OtherClef, OpenKey, OtherKey, OtherMeter, OtherSymbol, OtherTempo, Other}
use Rattle.interpretation.specs.declared.clef.Clef.TheVariants.{Treble, TrebleBelow, Alto, Tenor, Percussion}
use Rattle.interpretation.specs.declared.meter.Symbol.TheVariants.{Common, Cut}
use Rattle.interpretation.specs.declared.key.Mode.TheVariants.{Major, Minor}
use Rattle.interpretation.specs.Clef.{clef_number}
use Rattle.interpretation.specs.Key.{mode_number}
use Rattle.interpretation.specs.Meter.{symbol_number}
use Rattle.interpretation.specs.Unsupported.{notice_number}
use Rattle.interpretation.specs.Interpretation.{interpretation_of, computed}

-- a line: a token, whether its part has a note in the bar, and what it says
data Line : Type 0 where
  reads : List ℕ → Bool → Result Interpretation Unsupported → Line

-- a number for each kind, and what it holds
told : Result Interpretation Unsupported → List ℕ
told (Ok Nothing) = 0 ∷ []
told (Ok (Clef c)) = 1 ∷ clef_number c ∷ []
told (Ok (Key n)) = 2 ∷ of_z w8 n ∷ []
told (Ok (Meter n d)) = 3 ∷ n ∷ d ∷ []
told (Ok (Symbol s)) = 4 ∷ symbol_number s ∷ []
told (Ok (Tempo n)) = 5 ∷ n ∷ []
told (Ok Name) = 6 ∷ []
told (Ok ShortName) = 7 ∷ []
told (Ok (Mode m)) = 8 ∷ mode_number m ∷ []
told (Err why) = 9 ∷ notice_number why ∷ []

each : List Line → Bool
each [] = true
each (reads token noted r ∷ ls) = same_bytes (told r) (told (interpretation_of token noted)) && each ls

table : List Line
table =
    -- `*`
    reads (42 ∷ []) false (Ok Nothing)
    -- `*clefG2`
    ∷ reads (42 ∷ 99 ∷ 108 ∷ 101 ∷ 102 ∷ 71 ∷ 50 ∷ []) false (Ok (Clef Treble))
    -- `*clefGv2`
    ∷ reads (42 ∷ 99 ∷ 108 ∷ 101 ∷ 102 ∷ 71 ∷ 118 ∷ 50 ∷ []) false (Ok (Clef TrebleBelow))
    -- `*clefC3`
    ∷ reads (42 ∷ 99 ∷ 108 ∷ 101 ∷ 102 ∷ 67 ∷ 51 ∷ []) false (Ok (Clef Alto))
    -- `*clefC4`
    ∷ reads (42 ∷ 99 ∷ 108 ∷ 101 ∷ 102 ∷ 67 ∷ 52 ∷ []) false (Ok (Clef Tenor))
    -- `*clefX`
    ∷ reads (42 ∷ 99 ∷ 108 ∷ 101 ∷ 102 ∷ 88 ∷ []) false (Ok (Clef Percussion))
    -- `*clefQ`
    ∷ reads (42 ∷ 99 ∷ 108 ∷ 101 ∷ 102 ∷ 81 ∷ []) false (Err OtherClef)
    -- the fifteen standard signatures
    ∷ reads (ascii "*k[]") false (Ok (Key (pos 0)))
    ∷ reads (ascii "*k[f#]") false (Ok (Key (pos 1)))
    ∷ reads (ascii "*k[f#c#]") false (Ok (Key (pos 2)))
    ∷ reads (ascii "*k[f#c#g#]") false (Ok (Key (pos 3)))
    ∷ reads (ascii "*k[f#c#g#d#]") false (Ok (Key (pos 4)))
    ∷ reads (ascii "*k[f#c#g#d#a#]") false (Ok (Key (pos 5)))
    ∷ reads (ascii "*k[f#c#g#d#a#e#]") false (Ok (Key (pos 6)))
    ∷ reads (ascii "*k[f#c#g#d#a#e#b#]") false (Ok (Key (pos 7)))
    ∷ reads (ascii "*k[b-]") false (Ok (Key (negsuc 0)))
    ∷ reads (ascii "*k[b-e-]") false (Ok (Key (negsuc 1)))
    ∷ reads (ascii "*k[b-e-a-]") false (Ok (Key (negsuc 2)))
    ∷ reads (ascii "*k[b-e-a-d-]") false (Ok (Key (negsuc 3)))
    ∷ reads (ascii "*k[b-e-a-d-g-]") false (Ok (Key (negsuc 4)))
    ∷ reads (ascii "*k[b-e-a-d-g-c-]") false (Ok (Key (negsuc 5)))
    ∷ reads (ascii "*k[b-e-a-d-g-c-f-]") false (Ok (Key (negsuc 6)))
    -- others: another step, another order, upper case, a step without a sign, both signs, a step too many
    ∷ reads (ascii "*k[g#]") false (Err OtherKey)
    ∷ reads (ascii "*k[f#g#]") false (Err OtherKey)
    ∷ reads (ascii "*k[c#f#]") false (Err OtherKey)
    ∷ reads (ascii "*k[f#f#]") false (Err OtherKey)
    ∷ reads (ascii "*k[e-b-]") false (Err OtherKey)
    ∷ reads (ascii "*k[b-e-a-d-g-f-]") false (Err OtherKey)
    ∷ reads (ascii "*k[F#]") false (Err OtherKey)
    ∷ reads (ascii "*k[B-]") false (Err OtherKey)
    ∷ reads (ascii "*k[f]") false (Err OtherKey)
    ∷ reads (ascii "*k[f#c]") false (Err OtherKey)
    ∷ reads (ascii "*k[##]") false (Err OtherKey)
    ∷ reads (ascii "*k[f#b-]") false (Err OtherKey)
    ∷ reads (ascii "*k[f-]") false (Err OtherKey)
    ∷ reads (ascii "*k[b#]") false (Err OtherKey)
    ∷ reads (ascii "*k[f#c#g#d#a#e#b#f#]") false (Err OtherKey)
    ∷ reads (ascii "*k[b-e-a-d-g-c-f-b-]") false (Err OtherKey)
    ∷ reads (ascii "*k[ f#]") false (Err OtherKey)
    ∷ reads (ascii "*k[f#]]") false (Err OtherKey)
    -- `*k[é##]`
    ∷ reads (42 ∷ 107 ∷ 91 ∷ 195 ∷ 169 ∷ 35 ∷ 35 ∷ 93 ∷ []) false (Err OtherKey)
    -- without the bracket
    ∷ reads (ascii "*k[") false (Err OpenKey)
    ∷ reads (ascii "*k[f#") false (Err OpenKey)
    -- `*M4/4`
    ∷ reads (42 ∷ 77 ∷ 52 ∷ 47 ∷ 52 ∷ []) false (Ok (Meter 4 4))
    -- `*M4/+4`
    ∷ reads (42 ∷ 77 ∷ 52 ∷ 47 ∷ 43 ∷ 52 ∷ []) false (Ok (Meter 4 4))
    -- `*M0/4`
    ∷ reads (42 ∷ 77 ∷ 48 ∷ 47 ∷ 52 ∷ []) false (Err OtherMeter)
    -- `*M004/08`
    ∷ reads (42 ∷ 77 ∷ 48 ∷ 48 ∷ 52 ∷ 47 ∷ 48 ∷ 56 ∷ []) false (Ok (Meter 4 8))
    -- `*M255/128`
    ∷ reads (42 ∷ 77 ∷ 50 ∷ 53 ∷ 53 ∷ 47 ∷ 49 ∷ 50 ∷ 56 ∷ []) false (Ok (Meter 255 128))
    -- `*M256/4`
    ∷ reads (42 ∷ 77 ∷ 50 ∷ 53 ∷ 54 ∷ 47 ∷ 52 ∷ []) false (Err OtherMeter)
    -- `*M4/3`
    ∷ reads (42 ∷ 77 ∷ 52 ∷ 47 ∷ 51 ∷ []) false (Err OtherMeter)
    -- `*M+4/4`
    ∷ reads (42 ∷ 77 ∷ 43 ∷ 52 ∷ 47 ∷ 52 ∷ []) false (Err Other)
    -- `*M4/4/4`
    ∷ reads (42 ∷ 77 ∷ 52 ∷ 47 ∷ 52 ∷ 47 ∷ 52 ∷ []) false (Err OtherMeter)
    -- `*M4/`
    ∷ reads (42 ∷ 77 ∷ 52 ∷ 47 ∷ []) false (Err OtherMeter)
    -- `*M4`
    ∷ reads (42 ∷ 77 ∷ 52 ∷ []) false (Err OtherMeter)
    -- `*met(c)`
    ∷ reads (42 ∷ 109 ∷ 101 ∷ 116 ∷ 40 ∷ 99 ∷ 41 ∷ []) false (Ok (Symbol Common))
    -- `*met(c|)`
    ∷ reads (42 ∷ 109 ∷ 101 ∷ 116 ∷ 40 ∷ 99 ∷ 124 ∷ 41 ∷ []) false (Ok (Symbol Cut))
    -- `*met(o)`
    ∷ reads (42 ∷ 109 ∷ 101 ∷ 116 ∷ 40 ∷ 111 ∷ 41 ∷ []) false (Err OtherSymbol)
    -- `*MM119.5`
    ∷ reads (42 ∷ 77 ∷ 77 ∷ 49 ∷ 49 ∷ 57 ∷ 46 ∷ 53 ∷ []) false (Ok (Tempo 120))
    -- `*MM65534.5`
    ∷ reads (42 ∷ 77 ∷ 77 ∷ 54 ∷ 53 ∷ 53 ∷ 51 ∷ 52 ∷ 46 ∷ 53 ∷ []) false (Ok (Tempo 65535))
    -- `*MM65535.1`
    ∷ reads (42 ∷ 77 ∷ 77 ∷ 54 ∷ 53 ∷ 53 ∷ 51 ∷ 53 ∷ 46 ∷ 49 ∷ []) false (Err OtherTempo)
    -- `*MM0.9`
    ∷ reads (42 ∷ 77 ∷ 77 ∷ 48 ∷ 46 ∷ 57 ∷ []) false (Err OtherTempo)
    -- `*MM.`
    ∷ reads (42 ∷ 77 ∷ 77 ∷ 46 ∷ []) false (Err OtherTempo)
    -- `*MM1.000000000`
    ∷ reads (42 ∷ 77 ∷ 77 ∷ 49 ∷ 46 ∷ 48 ∷ 48 ∷ 48 ∷ 48 ∷ 48 ∷ 48 ∷ 48 ∷ 48 ∷ 48 ∷ []) false (Ok (Tempo 1))
    -- `*MM1.0000000000`
    ∷ reads (42 ∷ 77 ∷ 77 ∷ 49 ∷ 46 ∷ 48 ∷ 48 ∷ 48 ∷ 48 ∷ 48 ∷ 48 ∷ 48 ∷ 48 ∷ 48 ∷ 48 ∷ []) false (Err OtherTempo)
    -- `*MM1.2.3`
    ∷ reads (42 ∷ 77 ∷ 77 ∷ 49 ∷ 46 ∷ 50 ∷ 46 ∷ 51 ∷ []) false (Err OtherTempo)
    -- `*MM`
    ∷ reads (42 ∷ 77 ∷ 77 ∷ []) false (Err OtherTempo)
    -- `*I"Violin`
    ∷ reads (42 ∷ 73 ∷ 34 ∷ 86 ∷ 105 ∷ 111 ∷ 108 ∷ 105 ∷ 110 ∷ []) false (Ok Name)
    -- `*I'`
    ∷ reads (42 ∷ 73 ∷ 39 ∷ []) false (Ok ShortName)
    -- `*G:`
    ∷ reads (42 ∷ 71 ∷ 58 ∷ []) false (Ok (Mode Major))
    -- `*e:`
    ∷ reads (42 ∷ 101 ∷ 58 ∷ []) false (Ok (Mode Minor))
    -- `*b-:`
    ∷ reads (42 ∷ 98 ∷ 45 ∷ 58 ∷ []) false (Ok (Mode Minor))
    -- `*gé:`
    ∷ reads (42 ∷ 103 ∷ 195 ∷ 169 ∷ 58 ∷ []) false (Ok (Mode Minor))
    -- `*géé:`
    ∷ reads (42 ∷ 103 ∷ 195 ∷ 169 ∷ 195 ∷ 169 ∷ 58 ∷ []) false (Err Other)
    -- `*abcd:`
    ∷ reads (42 ∷ 97 ∷ 98 ∷ 99 ∷ 100 ∷ 58 ∷ []) false (Err Other)
    -- `*:`
    ∷ reads (42 ∷ 58 ∷ []) false (Err Other)
    -- `*clefG2` after a note
    ∷ reads (42 ∷ 99 ∷ 108 ∷ 101 ∷ 102 ∷ 71 ∷ 50 ∷ []) true (Err InsideBar)
    -- `*M4` after a note
    ∷ reads (42 ∷ 77 ∷ 52 ∷ []) true (Err InsideBar)
    -- `*MM60` after a note
    ∷ reads (42 ∷ 77 ∷ 77 ∷ 54 ∷ 48 ∷ []) true (Ok (Tempo 60))
    -- `*e:` after a note
    ∷ reads (42 ∷ 101 ∷ 58 ∷ []) true (Ok (Mode Minor))
    ∷ []

examples : T (each table)
unfolding each table told computed
examples = tt
