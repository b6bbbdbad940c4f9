-- Bytes without fault are the object of the code that stands in them.
use Rattle.std.proofs.Common.{◌≡◌, ℕ, ◌-◌, ◌≤◌, Bool, true, false, None, List, [], ◌∷◌, ◌++◌, length, take, drop, lit≤, refl, sym, ap}
use Rattle.std.proofs.Common.{subst, ◌∙◌, append_assoc, arith}
use Rattle.std.specs.Prelude.{slice_range, nat_eq, if◌then◌else◌}
use Rattle.std.specs.List.{flat_map, starts_with}
use Rattle.std.proofs.lemmas.Bool.Decides.{Decides-eqb}
use Rattle.std.proofs.lemmas.Slice.Eq.{starts_is}
use Rattle.std.proofs.lemmas.List.{take_at, take_all}
use Rattle.alma_base.specs.declared.number.Range.{Range}
use Rattle.alma_code.specs.declared.code.Line.{Line}
use Rattle.alma_code.specs.declared.instr.Instr.{Instr}
use Rattle.alma_code.specs.Plain.{PlainCode, PlainRoutine, PlainGlobal}
use Rattle.alma_code.specs.Records.{KeepsCounts}
use Rattle.alma_object_format.specs.declared.header.Header.{Header}
use Rattle.alma_object_format.specs.Bytes.{u16_bytes, words_bytes, u16_at, u32_at}
use Rattle.alma_object_format.specs.Fault.{whole}
use Rattle.alma_object_format.specs.Header.{IsWithin, magic, header_of, magic_fault, header_fault, routines_at, globals_at, params_at}
use Rattle.alma_object_format.specs.Header.{runs_at, ranges_at, texts_at, name_pool_at, text_pool_at, instrs_at, lines_at, end_at}
use Rattle.alma_object_format.specs.Walk.{sections_fault}
use Rattle.alma_object_format.specs.Instrs.{instr_bytes}
use Rattle.alma_object_format.specs.Object.{section, counts_of, header_bytes, table_bytes, pool_bytes, object_bytes, line_bytes, IsObject}
use Rattle.alma_object_format.specs.Reading.{items, routine_in, global_in, text_in, code_in}
use Rattle.alma_object.proofs.Items.{length_items}
use Rattle.alma_base.proofs.FirstFault.{unless_none, or_none}
use Rattle.alma_object_format.proofs.Kept.{whole_none}
use Rattle.alma_object.proofs.Rows.{keeps_records, keeps_version}
use Rattle.alma_object.proofs.Tables.{is_table, keeps_counts}
use Rattle.alma_object.proofs.Sections.{routines_stand, globals_stand, params_stand, runs_stand, ranges_stand, text_ends_stand, names_stand}
use Rattle.alma_object.proofs.Sections.{texts_stand, instrs_stand, lines_stand, names_total, params_total, runs_total, texts_total}
use Rattle.alma_object.proofs.Slices.{IsBytes, words_slice, slice_join, u16_slice}

-- six parts that follow one another
six_parts : (bytes : List ℕ) (a b c d e f g : ℕ) (p q r s t u : List ℕ) → a ≤ b → b ≤ c → c ≤ d → d ≤ e → e ≤ f → f ≤ g →
    p ≡ slice_range bytes a b → q ≡ slice_range bytes b c → r ≡ slice_range bytes c d → s ≡ slice_range bytes d e
    → t ≡ slice_range bytes e f → u ≡ slice_range bytes f g →
    p ++ (q ++ (r ++ (s ++ (t ++ u)))) ≡ slice_range bytes a g
six_parts bytes a b c d e f g p q r s t u ab bc cd de ef fg ep eq er es et eu =
    let j1 : t ++ u ≡ slice_range bytes e g = ap (λ (x : List ℕ). x ++ u) et ∙ ap (λ (x : List ℕ). slice_range bytes e f ++ x) eu
    ∙ slice_join bytes e f g ef fg in
    let j2 : s ++ (t ++ u) ≡ slice_range bytes d g = ap (λ (x : List ℕ). x ++ (t ++ u)) es
    ∙ ap (λ (x : List ℕ). slice_range bytes d e ++ x) j1 ∙ slice_join bytes d e g de (omega arith) in
    let j3 : r ++ (s ++ (t ++ u)) ≡ slice_range bytes c g = ap (λ (x : List ℕ). x ++ (s ++ (t ++ u))) er
    ∙ ap (λ (x : List ℕ). slice_range bytes c d ++ x) j2 ∙ slice_join bytes c d g cd (omega arith) in
    let j4 : q ++ (r ++ (s ++ (t ++ u))) ≡ slice_range bytes b g = ap (λ (x : List ℕ). x ++ (r ++ (s ++ (t ++ u)))) eq
    ∙ ap (λ (x : List ℕ). slice_range bytes b c ++ x) j3 ∙ slice_join bytes b c g bc (omega arith) in
    ap (λ (x : List ℕ). x ++ (q ++ (r ++ (s ++ (t ++ u))))) ep ∙ ap (λ (x : List ℕ). slice_range bytes a b ++ x) j4
    ∙ slice_join bytes a b g ab (omega arith)

-- a section of n items, counted in another way
counted : (each : ℕ → List ℕ) (m n : ℕ) (x : List ℕ) → m ≡ n → section each n ≡ x → section each m ≡ x
counted each m n x e p = ap (section each) e ∙ p

module _ (bytes : List ℕ) (h : Header) (fits : IsBytes bytes) (within : IsWithin h) (none : sections_fault bytes h ≡ None)
    (whole : length bytes ≡ end_at h) where
  pub tables_stand : table_bytes (code_in bytes h) ≡ slice_range bytes (routines_at h) (name_pool_at h)
  unfolding table_bytes
  tables_stand =
      six_parts bytes (routines_at h) (globals_at h) (params_at h) (runs_at h) (ranges_at h) (texts_at h) (name_pool_at h) _ _ _ _ _ _
      (omega arith) (omega arith) (omega arith) (omega arith) (omega arith) (omega arith)
      (counted _ _ _ _ (length_items (routine_in bytes h) h.routines) (routines_stand bytes h fits within none whole))
      (counted _ _ _ _ (length_items (global_in bytes h) h.globals) (globals_stand bytes h fits within none whole))
      (params_stand bytes h fits within none) (runs_stand bytes h fits within none) (ranges_stand bytes h fits within none)
      (counted _ _ _ _ (length_items (text_in bytes h) h.texts) (text_ends_stand bytes h fits within none whole))

  pub pools_stand : pool_bytes (code_in bytes h) ≡ slice_range bytes (name_pool_at h) (instrs_at h)
  unfolding pool_bytes
  pools_stand =
      sym (append_assoc (flat_map (λ (r : PlainRoutine). r.name) (items (routine_in bytes h) h.routines))
      (flat_map (λ (g : PlainGlobal). g.name) (items (global_in bytes h) h.globals))
      (flat_map (λ x. x) (items (text_in bytes h) h.texts)))
      ∙ ap (λ (t : List ℕ). t ++ flat_map (λ x. x) (items (text_in bytes h) h.texts)) (names_stand bytes h fits within none)
      ∙ ap (λ (t : List ℕ). slice_range bytes (name_pool_at h) (text_pool_at h) ++ t) (texts_stand bytes h fits within none)
      ∙ slice_join bytes (name_pool_at h) (text_pool_at h) (instrs_at h) (omega arith) (omega arith)

-- ---- the header

magic_stands : (bytes : List ℕ) → magic_fault bytes ≡ None → slice_range bytes 0 8 ≡ magic
magic_stands bytes e =
    let a = whole_none bytes 8 _ e in
    let b = unless_none _ _ _ a.1 in
    let same = (starts_is Decides-eqb bytes magic (starts_with nat_eq bytes magic) refl).0 b.0 in
    ap (take 8) same ∙ take_at magic (drop 8 bytes) 8 refl

module _ (bytes : List ℕ) (fits : IsBytes bytes) (within : IsWithin (header_of bytes)) (clean : header_fault bytes ≡ None)
    (none : sections_fault bytes (header_of bytes) ≡ None) (whole : length bytes ≡ end_at (header_of bytes)) where
  abbrev h : Header
  h = header_of bytes

  nine : List ℕ → List ℕ
  nine rest = u32_at bytes 10 ∷ u32_at bytes 14 ∷ u32_at bytes 18 ∷ u32_at bytes 22 ∷ u32_at bytes 26 ∷ u32_at bytes 30 ∷ u32_at bytes 34
      ∷ u32_at bytes 38 ∷ u32_at bytes 42 ∷ rest

  counts_are : (rest : List ℕ) → (if nat_eq (u16_at bytes 8) 2 then length (code_in bytes h).lines ∷ [] else []) ≡ rest
      → counts_of (code_in bytes h) ≡ nine rest
  unfolding nine
  counts_are rest last =
      let c1 = length_items (routine_in bytes h) h.routines in
      let c2 = length_items (global_in bytes h) h.globals in
      let c3 = params_total bytes h fits within none whole in
      let c4 = runs_total bytes h fits within none whole in
      let c5 : length (code_in bytes h).ranges ≡ h.ranges = length_items _ _ in
      let c6 = length_items (text_in bytes h) h.texts in
      let c7 = names_total bytes h fits within none whole in
      let c8 = texts_total bytes h fits within none whole in
      let c9 : length (code_in bytes h).instrs ≡ h.instrs = length_items _ _ in
      cc

  header_of_version : (end : ℕ) (rest : List ℕ) → routines_at h ≡ end → 46 ≤ end
      → (if nat_eq (u16_at bytes 8) 2 then length (code_in bytes h).lines ∷ [] else []) ≡ rest →
      slice_range bytes 10 end ≡ words_bytes (nine rest) → header_bytes (code_in bytes h) ≡ slice_range bytes 0 (routines_at h)
  unfolding header_bytes header_fault
  header_of_version end rest at low last words =
      let a = or_none _ _ clean in
      let first : magic ≡ slice_range bytes 0 8 = sym (magic_stands bytes a.0) in
      let second : u16_bytes (u16_at bytes 8) ≡ slice_range bytes 8 10 = sym (u16_slice bytes 8 fits (omega arith)) in
      let third : words_bytes (counts_of (code_in bytes h)) ≡ slice_range bytes 10 end = ap words_bytes (counts_are rest last)
      ∙ sym words in
      ap (λ (t : List ℕ). t ++ (u16_bytes (u16_at bytes 8) ++ words_bytes (counts_of (code_in bytes h)))) first
      ∙ ap (λ (t : List ℕ). slice_range bytes 0 8 ++ t)
      (ap (λ (t : List ℕ). t ++ words_bytes (counts_of (code_in bytes h))) second ∙ ap (λ (t : List ℕ). slice_range bytes 8 10 ++ t) third
      ∙ slice_join bytes 8 10 end (lit≤ tt) (omega arith))
      ∙ slice_join bytes 0 8 end (lit≤ tt) (omega arith) ∙ ap (slice_range bytes 0) (sym at)

  by_version : (two : Bool) → nat_eq (u16_at bytes 8) 2 ≡ two → header_bytes (code_in bytes h) ≡ slice_range bytes 0 (routines_at h)
  unfolding nine
  by_version true e =
      let at : routines_at h ≡ 50 = ap (λ b. if b then 50 else 46) e in
      let lines : length (code_in bytes h).lines ≡ u32_at bytes 46 = length_items _ _ ∙ ap (λ b. if b then u32_at bytes 46 else 0) e in
      header_of_version 50 (u32_at bytes 46 ∷ []) at (lit≤ tt)
      (ap (λ b. if b then length (code_in bytes h).lines ∷ [] else []) e ∙ ap (λ k. k ∷ []) lines)
      (words_slice bytes 10 10 fits (omega arith))
  by_version false e =
      let at : routines_at h ≡ 46 = ap (λ b. if b then 50 else 46) e in
      header_of_version 46 [] at (lit≤ tt) (ap (λ b. if b then length (code_in bytes h).lines ∷ [] else []) e)
      (words_slice bytes 10 9 fits (omega arith))

  -- the bytes are the object of their code
  pub object_stands : object_bytes (code_in bytes h) ≡ bytes
  unfolding object_bytes
  object_stands =
      let code = code_in bytes h in
      let last : flat_map instr_bytes code.instrs ++ flat_map line_bytes code.lines ≡ slice_range bytes (instrs_at h) (end_at h) =
      ap (λ (t : List ℕ). t ++ flat_map line_bytes code.lines) (instrs_stand bytes h fits within none whole)
      ∙ ap (λ (t : List ℕ). slice_range bytes (instrs_at h) (lines_at h) ++ t) (lines_stand bytes h fits within none)
      ∙ slice_join bytes (instrs_at h) (lines_at h) (end_at h) (omega arith) (omega arith) in
      let pools = ap (λ (t : List ℕ). t ++ (flat_map instr_bytes code.instrs ++ flat_map line_bytes code.lines))
      (pools_stand bytes h fits within none whole) ∙ ap (λ (t : List ℕ). slice_range bytes (name_pool_at h) (instrs_at h) ++ t) last
      ∙ slice_join bytes (name_pool_at h) (instrs_at h) (end_at h) (omega arith) (omega arith) in
      let tables = ap (λ (t : List ℕ). t ++ (pool_bytes code ++ (flat_map instr_bytes code.instrs ++ flat_map line_bytes code.lines)))
      (tables_stand bytes h fits within none whole) ∙ ap (λ (t : List ℕ). slice_range bytes (routines_at h) (name_pool_at h) ++ t) pools
      ∙ slice_join bytes (routines_at h) (name_pool_at h) (end_at h) (omega arith) (omega arith) in
      ap (λ (t : List ℕ). t ++ (table_bytes code
      ++ (pool_bytes code ++ (flat_map instr_bytes code.instrs ++ flat_map line_bytes code.lines))))
      (by_version (nat_eq (u16_at bytes 8) 2) refl)
      ∙ ap (λ (t : List ℕ). slice_range bytes 0 (routines_at h) ++ t) tables
      ∙ slice_join bytes 0 (routines_at h) (end_at h) (omega arith) (omega arith)
      ∙ (let z : end_at h - 0 ≡ end_at h = omega arith in ap (λ k. take k bytes) z ∙ take_all (end_at h) bytes (omega arith))

-- the same for the header that was read
pub stands_for : (bytes : List ℕ) (h : Header) → IsBytes bytes → h ≡ header_of bytes → IsWithin h → header_fault bytes ≡ None
    → sections_fault bytes h ≡ None → length bytes ≡ end_at h → object_bytes (code_in bytes h) ≡ bytes
stands_for bytes h fits same within clean none whole =
    let P : Header → Type 0 = λ k. IsWithin k → sections_fault bytes k ≡ None → length bytes ≡ end_at k
    → object_bytes (code_in bytes k) ≡ bytes in
    subst P (sym same) (λ w n l. object_stands bytes fits w clean n l) within none whole

-- the code that stands in bytes without fault has these bytes as its object
pub is_object : (bytes : List ℕ) (h : Header) → IsBytes bytes → h ≡ header_of bytes → IsWithin h → header_fault bytes ≡ None
    → sections_fault bytes h ≡ None → length bytes ≡ end_at h → IsObject (code_in bytes h) bytes
is_object bytes h fits same within clean none whole = record {
  version = keeps_version bytes h fits within none whole;
  counts = keeps_counts bytes h fits within none whole;
  records = keeps_records bytes h fits within none whole;
  table = is_table bytes h fits within none whole;
  spelled = stands_for bytes h fits same within clean none whole;
}

-- a code that is that of an object keeps its counts
pub keeps_counts_of : (code plain : PlainCode) (bytes : List ℕ) → code ≡ plain → IsObject plain bytes → KeepsCounts code
keeps_counts_of code plain bytes same object = subst KeepsCounts (sym same) object.counts

-- a code with the parts of another is that code
pub code_same : (plain : PlainCode) (rs : List PlainRoutine) (gs : List PlainGlobal) (xs : List Range) (ts : List (List ℕ))
    (is : List Instr) (ls : List Line) →
    rs ≡ plain.routines → gs ≡ plain.globals → xs ≡ plain.ranges → ts ≡ plain.texts → is ≡ plain.instrs → ls ≡ plain.lines →
    record plain { routines = rs; globals = gs; ranges = xs; texts = ts; instrs = is; lines = ls } ≡ plain
code_same plain rs gs xs ts is ls a b c d e f =
    ap (λ y. record plain { routines = y; globals = gs; ranges = xs; texts = ts; instrs = is; lines = ls }) a
    ∙ ap (λ y. record plain { globals = y; ranges = xs; texts = ts; instrs = is; lines = ls }) b
    ∙ ap (λ y. record plain { ranges = y; texts = ts; instrs = is; lines = ls }) c
    ∙ ap (λ y. record plain { texts = y; instrs = is; lines = ls }) d ∙ ap (λ y. record plain { instrs = y; lines = ls }) e
    ∙ ap (λ y. record plain { lines = y }) f
