-- What a call shows that walks a program, where nothing fails.
use Rattle.std.proofs.Common.{◌≡◌, ◌∙◌, ◌≤◌, ℕ, List, [], ◌∷◌, ◌++◌, length, refl, ap, sym, subst, inl, inr}
use Rattle.std.proofs.lemmas.List.{append_assoc}
use Rattle.std.specs.Prelude.{Bool, true, false, codes, Option, None, Some, Result, Ok, Err}
use Rattle.alma_base.specs.Limits.{input_limit, object_limit}
use Rattle.alma_code.specs.Plain.{PlainCode}
use Rattle.alma_code.specs.Reads.{code_reads}
use Rattle.alma_code.specs.TraceText.{value_of_name}
use Rattle.alma_io.specs.Files.{Told, Has}
use Rattle.alma_ir.specs.Tree.{Program}
use Rattle.alma_lower.specs.CodeFor.{IsCodeFor}
use Rattle.alma_plan.specs.Causes.{Causes}
use Rattle.alma_plan.specs.Objects.{object_refusal}
use Rattle.alma_io.specs.Outside.{Outside, IsUndisturbed}
use Rattle.alma_plan.specs.Plan.{Due, Ending, Plan, Fetches, Reading, Asks, Comes, MayLack, plain, prints}
use Rattle.alma_plan.specs.Undisturbed.{ShowsDue}
use Rattle.alma_plan.proofs.SpelledObjects.{spelled_accepted, spelled_short}
use Rattle.alma_plan.proofs.ToldLemmas.{fetch_comes, read_comes}
use Rattle.alma_plan.proofs.UndisturbedLemmas.{call_shows_due}
use Rattle.alma_run_laws.proofs.Meant.{code_shows}
use Rattle.alma_run_laws.proofs.VariableLemmas.{values_meant, variables_shown}
use Rattle.alma_run_laws.specs.Variables.{variable_word}
use Rattle.alma_verify.specs.Bytes.{object_code}
use Rattle.alma_back.specs.Due.{fetch_plan, back_plan, walk_files_plan, unless_bad_line, program, script_limit, walk_plan, walk_on_plan}
use Rattle.alma_back.specs.Script.{Line, Forward, Backward, Value, Output, lines_in}
use Rattle.alma_back.specs.Session.{after_line, line_text, session, lines_text}
use Rattle.alma_back.specs.Shown.{ShowsLine, ShowsLines, none, one_more, ShowsWalk, WalksProgram}
use Rattle.alma_back.specs.Standing.{Standing, standing_at_start, state_of, output_of}
use Rattle.alma_back.proofs.Alike.{kept_after, shown_alike}
use Rattle.alma_back.proofs.WordLemmas.{request_plan}

-- ---- what lines show

module _ (p : Program) where
  -- it is code of the program, and the input is within its length
  record IsRunOf (code : PlainCode) (input : List ℕ) : Type 0 where
    code_for : IsCodeFor p code
    short : length input ≤ input_limit

  shows_value : (s : Standing) (name : List ℕ) → IsRunOf s.code s.input → ShowsLine p s (Value name) (line_text s (Value name))
  shows_value s name is =
      let value = value_of_name (state_of s).now s.code.globals name in
      let word : name ++ 61 ∷ value ≡ variable_word (state_of s).now p.globals name =
      cc (variables_shown s.code p (name ∷ []) (state_of s) is.code_for.names) in (
        sym (append_assoc name (61 ∷ value) (codes "\n")) ∙ ap (λ (bytes : List ℕ). bytes ++ codes "\n") word,
        values_meant s.code p s.input s.steps name is.code_for.values is.short,
      )

  shows_line : (s : Standing) (line : Line) → IsRunOf s.code s.input → ShowsLine p s line (line_text s line)
  shows_line s (Forward more) is = refl
  shows_line s (Backward less) is = refl
  shows_line s (Value name) is = shows_value s name is
  shows_line s Output is = (
    output_of s,
    code_shows s.code p s.input s.steps is.code_for.implements is.short,
    refl,
  )

  shows_lines : (s : Standing) (lines : List Line) → IsRunOf s.code s.input → ShowsLines p s lines (lines_text s lines)
  shows_lines s [] is = none s
  shows_lines s (line ∷ lines) is =
      let next = after_line s line in
      let still : IsRunOf next.code next.input = kept_after IsRunOf s line is in
      one_more s line lines (line_text next line) (lines_text next lines) (shows_line next line still) (shows_lines next lines still)

-- ---- no file is missing

module _ (told : List ℕ → Told) where
  on_asks : (reads : Bool) (code : PlainCode) (lines : List Line) (name : List ℕ) → Asks plain told (walk_on_plan reads code lines) name → ⊥
  on_asks true code lines name asks = asks
  on_asks false code lines name asks = asks

  walked_asks : (refusal : Option Ending) (code : PlainCode) (lines : List Line) (name : List ℕ)
      → Asks plain told (walk_plan refusal code lines) name → ⊥
  walked_asks None code lines name asks = on_asks (code_reads code) code lines name asks
  walked_asks (Some end) code lines name asks = asks

  walk_files_asks : (r : Result (List Line) ℕ) (object name : List ℕ) → Asks plain told (unless_bad_line r object) name → ⊥
  walk_files_asks (Ok lines) object name asks = walked_asks (object_refusal program object) (object_code object) lines name asks
  walk_files_asks (Err line) object name asks = asks

  -- both files that are asked for are there
  lacks_none : (object script bytes text : List ℕ) → told object ≡ Has bytes → told script ≡ Has text
      → MayLack plain told (fetch_plan object script) → ⊥
  lacks_none object script bytes text has too lacks = by lacks.1
    where
      by : Asks plain told (fetch_plan object script) lacks.0 → ⊥
      by (inl same) = cc (has, same, lacks.2)
      by (inr (got, may, within, inl same)) = cc (too, same, lacks.2)
      by (inr (got, may, within, inr h)) = walk_files_asks (lines_in h.0) got lacks.0 h.3

-- ---- what comes of the files and the input

module _ (told : List ℕ → Told) (left : Option (List ℕ)) (reading : Reading) (due : Due) where
  abbrev ComesOf : Plan ⊥ Due → Type 0
  ComesOf plan = Comes plain program told left plan reading due

  module _ (code : PlainCode) (lines : List Line) (input : List ℕ) (short : length input ≤ input_limit) where
    on_comes : (reads : Bool) → code_reads code ≡ reads → (code_reads code ≡ true → left ≡ Some input)
        → ComesOf (walk_on_plan reads code lines) → due ≡ prints (session code input lines)
    on_comes true is has c =
        read_comes plain program told left reading due input (λ bytes. prints (session code bytes lines)) (has is) short c
    on_comes false quiet has h = h.1 ∙ ap prints (sym (shown_alike input (standing_at_start code []) lines quiet))

    walk_files_comes : (bytes text : List ℕ) → lines_in text ≡ Ok lines → object_refusal program bytes ≡ None → object_code bytes ≡ code
        → (code_reads code ≡ true → left ≡ Some input) → ComesOf (walk_files_plan bytes text) → due ≡ prints (session code input lines)
    walk_files_comes bytes text good sound is has come =
        let read = subst (λ (r : Result (List Line) ℕ). ComesOf (unless_bad_line r bytes)) good come in
        let opened = subst (λ (refusal : Option Ending). ComesOf (walk_plan refusal (object_code bytes) lines)) sound read in
        on_comes (code_reads code) refl has (subst (λ (c : PlainCode). ComesOf (walk_on_plan (code_reads c) c lines)) is opened)

-- ---- the call

pub walk_shows : (words : List (List ℕ)) (p : Program) (lines : List Line) (input : List ℕ) (before after : Outside) (status : ℕ)
    (w : WalksProgram words before p lines input) → Causes plain program (back_plan words) before after status
    → IsUndisturbed before after status → ShowsWalk p lines input w.bytes before after status
walk_shows words p lines input before after status w causes calm =
    let code = object_code w.bytes in
    let told = before.files.told in
    let causes' = subst (λ (plan : Plan ⊥ Due). Causes plain program plan before after status)
    (request_plan words w.object w.script w.asks) causes in
    let h = call_shows_due plain program (fetch_plan w.object w.script) before after status causes' calm
    (lacks_none told w.object w.script w.bytes w.text w.object_told w.script_told) in
    let opened = fetch_comes plain program told before.input.left h.0 h.1 w.object w.bytes object_limit
    (λ bytes. Fetches w.script script_limit (λ text. walk_files_plan bytes text)) w.object_told
    (spelled_short p w.bytes w.spells) h.2 in
    let read = fetch_comes plain program told before.input.left h.0 h.1 w.script w.text script_limit (λ text. walk_files_plan w.bytes text)
    w.script_told w.script_short opened in
    let is : h.1 ≡ prints (session code input lines) =
    walk_files_comes told before.input.left h.0 h.1 code lines input w.input_short w.bytes w.text w.script_good
    (spelled_accepted program p w.bytes w.spells)
    refl (λ reads. w.left (sym w.spells.code.reads ∙ reads)) read in (
      session code input lines,
      shows_lines p (standing_at_start code input) lines
          (record { code_for = w.spells.code; short = w.input_short }),
      subst (ShowsDue before after status) is h.3,
    )
