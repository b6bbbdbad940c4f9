-- A code of which each table is as it should be is that of the program.
use Rattle.std.proofs.Common.{◌≡◌, length, sym, ap, ◌∙◌, subst}
use Rattle.std.specs.Prelude.{map}
use Rattle.alma_code.specs.Plain.{PlainCode}
use Rattle.alma_ir.specs.Tree.{Program}
use Rattle.alma_lower_sound.specs.Entries.{AreSome, HoldsEachOnce, program_ranges, program_texts}
use Rattle.alma_lower_sound.specs.Runs.{HasLongRuns}
use Rattle.alma_lower_sound.proofs.Whole.{long_runs}
use Rattle.alma_lower_templates.specs.CodeOf.{HoldsAllOf, IsCodeOf}
use Rattle.alma_lower_templates.specs.Compiled.{global_named, routines_code, routines_named, program_code}
use Rattle.alma_lower_templates.specs.LineInstr.{instrs_of, lines_of}
use Rattle.alma_lower_templates.specs.Tables.{Tables, same_range, same_text}
use Rattle.alma_lower.specs.Routines.{AreHeads, runs_in}
use Rattle.alma_lower.proofs.Making.{length_runs}

module _ (p : Program) (t : Tables) (code : PlainCode) (version : code.version ≡ 2) (heads : AreHeads p t (length p.routines) code.routines)
    (globals : code.globals ≡ map global_named p.globals)
    (ranges : code.ranges ≡ t.ranges) (texts : code.texts ≡ t.texts)
    (instrs : code.instrs ≡ instrs_of (routines_code p t 0 (length p.routines) 0))
    (lines : code.lines ≡ lines_of (routines_code p t 0 (length p.routines) 0)) where
  code_is : code ≡ program_code p t (runs_in code.routines)
  code_is =
      let all = routines_code p t 0 (length p.routines) 0 in
      ap (λ x. record {
        version = x;
        routines = code.routines;
        globals = code.globals;
        ranges = code.ranges;
        texts = code.texts;
        instrs =
            code.instrs;
        lines = code.lines;
      }) version
      ∙ ap (λ x. record {
        version = 2;
        routines = x;
        globals = code.globals;
        ranges = code.ranges;
        texts = code.texts;
        instrs = code.instrs;
        lines = code.lines;
      }) heads.are
      ∙ ap (λ x. record {
        version = 2;
        routines = routines_named p t 0 0 (runs_in code.routines);
        globals = x;
        ranges = code.ranges;
        texts =
            code.texts;
        instrs = code.instrs;
        lines = code.lines;
      }) globals
      ∙ ap (λ x. record {
        version = 2;
        routines = routines_named p t 0 0 (runs_in code.routines);
        globals = map global_named p.globals;
        ranges = x;
        texts = code.texts;
        instrs = code.instrs;
        lines = code.lines;
      }) ranges
      ∙ ap (λ x. record {
        version = 2;
        routines = routines_named p t 0 0 (runs_in code.routines);
        globals = map global_named p.globals;
        ranges = t.ranges;
        texts = x;
        instrs = code.instrs;
        lines = code.lines;
      }) texts
      ∙ ap (λ x. record {
        version = 2;
        routines = routines_named p t 0 0 (runs_in code.routines);
        globals = map global_named p.globals;
        ranges = t.ranges;
        texts = t.texts;
        instrs = x;
        lines = code.lines;
      }) instrs
      ∙ ap (λ x. record {
        version = 2;
        routines = routines_named p t 0 0 (runs_in code.routines);
        globals = map global_named p.globals;
        ranges = t.ranges;
        texts = t.texts;
        instrs = instrs_of all;
        lines = x;
      }) lines

  pub is_code_of : HoldsAllOf p t → IsCodeOf p code
  is_code_of held = record {
    tables = t;
    held = held;
    runs = runs_in code.routines;
    count = length_runs code.routines ∙ heads.count;
    names = λ r lt. (heads.names r lt).names;
    is = code_is;
  }

  pub has_long_runs : HoldsAllOf p t → HasLongRuns p code
  unfolding is_code_of
  has_long_runs held = long_runs p code (is_code_of held) heads.names

  pub holds_each_once : AreSome same_range (program_ranges p) t.ranges → AreSome same_text (program_texts p) t.texts → HoldsEachOnce p code
  holds_each_once h j = record {
    ranges = subst (AreSome same_range (program_ranges p)) (sym ranges) h;
    texts =
        subst (AreSome same_text (program_texts p)) (sym texts) j;
  }
