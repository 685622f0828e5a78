-- What the first reading of an accepted text measures.
use Rattle.std.specs.Prelude.{◌≡◌, ℕ, List, length}
use Rattle.sheet.specs.Record.{Record, records_bytes}
use Rattle.reading.specs.Text.{accepted, read_text}
use Rattle.extent.specs.Extent.{Extent}

-- the text is accepted with so many parts and notes, and its records are so many bytes long
pub record Measured (text : List ℕ) (parts notes at : ℕ) : Type 0 where
  pub records : List Record
  pub is : read_text text ≡ accepted parts notes records
  pub size : at ≡ length (records_bytes records)
  pub bounds : Extent parts notes records
