use Rattle.std.proofs.Common.{refl}
use Rattle.alma_code.specs.Plain.{code_of}
use Rattle.alma_object_format.specs.Object.{object_bytes}
use Rattle.alma_plan.proofs.Courses.{course_starved, course_stored, course_unstored, course_starved_store}
use Rattle.alma_plan.specs.Programs.{Stores, sense, storing}
use Rattle.alma_plan.proofs.Storing.{is_object, stored_as}
use Rattle.alma_run_laws.proofs.Told.{told_stays}
use Rattle.alma_plan.proofs.store.store_code.Goals as goal

pub returns-in_default : goal.returns-in_default
returns-in_default g c = λ p is program failed input out. course_starved program _ _ _ input out

pub returns-in-Ok-store : goal.returns-in-Ok-store
returns-in-Ok-store g c = λ p is program failed input out.
    let code = code_of c.args.code.now in
    let e = rw (c.deref.ensures.value, c.in-Ok.ensures) at c.in-Ok-store.ensures in
    course_stored (sense program failed) program (Stores p c.args.object.now) (storing c.args.object.now (object_bytes code))
    (stored_as c.args.object.now (object_bytes code)) _ _ input out
    (code, object_bytes code, is, is_object p code is c.requires.version c.requires.counts c.requires.records, c.fits_fields.ensures, refl)
    refl refl e.fetch_count (e.others, e.answer.0, e.answer.1)

pub returns-in-Err-Failed : goal.returns-in-Err-Failed
returns-in-Err-Failed g c = λ p is program failed input out.
    let code = code_of c.args.code.now in
    let f = c.in-Err-Failed in
    let h = rw f.field-0-is at f.ensures.answer in
    course_unstored (sense program failed) program (Stores p c.args.object.now) (storing c.args.object.now (object_bytes code))
    (stored_as c.args.object.now (object_bytes code)) _ _ input out
    (code, object_bytes code, is, is_object p code is c.requires.version c.requires.counts c.requires.records, c.fits_fields.ensures, refl)
    refl refl f.ensures.fetch_count f.ensures.others (h.0, h.1)

pub returns : goal.returns
returns g c = λ p is program failed input out.
    let f = c.in-Err-Memory in
    let h = rw f.field-0-is at f.ensures.answer in
    course_starved_store (sense program failed) program (Stores p c.args.object.now) _ _ input out f.ensures.fetch_count
    (told_stays (g.F.Files.side c.args.files.now) (g.F.Files.side c.store.new.self) c.args.object.now f.ensures.others h.0, h.1)
