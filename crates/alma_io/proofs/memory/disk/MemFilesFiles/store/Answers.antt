use Rattle.std.proofs.Common.{◌≡◌, ◌∙◌, ap}
use Rattle.std.specs.FinMap.{get}
use Rattle.alma_io.specs.Memory.{told_by, NamedBytes}
use Rattle.alma_io.specs.Named.{named_bytes}
use Rattle.alma_io.proofs.NamedLemmas.{get-insert_same, get-insert_other, now_has}
use Rattle.alma_io.proofs.memory.disk.MemFilesFiles.store.Goals as goal
use Rattle.alma_io.proofs.memory.disk.MemFilesFiles.store.Goals.{in-Ok, in-Err}

pub returns-clause-others : goal.returns-clause-others
returns-clause-others c =
    let old : named_bytes c.self.inside.files ≡ c.args.self.now.files = ap (λ s. s.files) c.self.view_is in
    elim c.match-set_file.branch [
      | in-Ok w ↦ λ other apart. ap (λ (m : NamedBytes). told_by (get m other)) w.in-Ok.ensures.ok
          ∙ ap told_by (get-insert_other _ c.args.name.now c.args.bytes.now other apart)
          ∙ ap (λ (m : NamedBytes). told_by (get m other)) old
      | in-Err w ↦ λ other apart. ap (λ (m : NamedBytes). told_by (get m other)) (w.in-Err.ensures.err ∙ old)
    ]

pub returns-clause-answer : goal.returns-clause-answer
returns-clause-answer c =
    let old : named_bytes c.self.inside.files ≡ c.args.self.now.files = ap (λ s. s.files) c.self.view_is in
    let counts : c.self.inside.store_faults ≡ c.args.self.now.store_faults = ap (λ s. s.store_faults) c.self.view_is in
    elim c.match-set_file.branch [
      | in-Ok w ↦ rw w.result-is (
        now_has _ _ _ (ap (λ (m : NamedBytes). told_by (get m c.args.name.now)) w.in-Ok.ensures.ok
            ∙ ap told_by (get-insert_same _ c.args.name.now c.args.bytes.now)),
        counts,
      )
      | in-Err w ↦ rw w.result-is (ap (λ (m : NamedBytes). told_by (get m c.args.name.now)) (w.in-Err.ensures.err ∙ old), counts)
    ]
