-- The code of an object by its bytes.
use Rattle.std.specs.Prelude.{ℕ, List}
use Rattle.alma_code.specs.Plain.{PlainCode}
use Rattle.alma_object.specs.Header.{header_of}
use Rattle.alma_object.specs.Reading.{code_in}

-- the code that the bytes of an object spell
abbrev pub object_code : List ℕ → PlainCode
object_code bytes = code_in bytes (header_of bytes)
