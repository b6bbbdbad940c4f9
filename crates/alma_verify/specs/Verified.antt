-- The code of a verified view.
use Rattle.alma_code.specs.Plain.{PlainCode}
use Rattle.alma_object.specs.View.{code_of_view}
use Rattle.alma_verify.specs.declared.verified.Verified.{Verified}

-- the code that the view stands for
abbrev pub code_of_verified : Verified → PlainCode
code_of_verified verified = code_of_view verified.view
