-- The first and the last fallback name.
use mathlib.Core.Path.{◌≡◌, refl}
use Rattle.slices.specs.Ascii.{ascii}
use Rattle.names.specs.Names.{decimal, spine_name}

pub name_first : spine_name 0 ≡ ascii "Spine 1"
unfolding decimal spine_name
name_first = refl

pub name_last : spine_name 255 ≡ ascii "Spine 256"
unfolding decimal spine_name
name_last = refl
