use Rattle.std.proofs.Common.{◌≡◌, ◌++◌, ◌∙◌, [], List, ℕ, refl, sym, subst}
use Rattle.std.proofs.lemmas.Result.{err_from_is_err_and}
use Rattle.alma_io.specs.Buffer.{GainsAllBut}
use Rattle.alma_io.specs.Outside.{Gains}
use Rattle.alma_io.proofs.BufferLemmas.{none_held, gains_then, fails_then}
use Rattle.alma_io.proofs.buffer.SinkBuffer.write.Goals as goal

pub returns-in_err-write_all : goal.returns-in_err-write_all
returns-in_err-write_all g c =
    let p = err_from_is_err_and c.from_residual-in_err-write_all.result c.from_residual-in_err-write_all.ensures.1 in
    let out = subst (λ (bytes : List ℕ). Gains (g.K.Sink.side c.args.sink.now) (g.K.Sink.side c.flush.new.sink) bytes)
    (c.if-hold.ensures.full refl) c.in_ok-flush.ensures.writes in
    rw p.1 (record {
      writes = fails_then _ _ _ c.args.self.now c.args.piece.now out c.in_err-write_all.ensures.writes;
      empty = c.if-hold-2.ensures.full refl ∙ c.flush.ensures.empty;
    })

pub returns-clause-writes : goal.returns-clause-writes
returns-clause-writes g c =
    let out = subst (λ (bytes : List ℕ). Gains (g.K.Sink.side c.args.sink.now) (g.K.Sink.side c.flush.new.sink) bytes)
    (c.if-hold.ensures.full refl) c.in_ok-flush.ensures.writes in
    let empty : c.hold-2.new.self ≡ [] = c.if-hold-2.ensures.full refl ∙ c.flush.ensures.empty in
    subst (λ (held : List ℕ). GainsAllBut (g.K.Sink.side c.args.sink.now) (g.K.Sink.side c.write_all.new.sink)
    (c.args.self.now ++ c.args.piece.now) held) (sym empty)
    (none_held _ _ _ (gains_then _ _ _ c.args.self.now c.args.piece.now out c.in_ok-write_all.ensures.writes))
