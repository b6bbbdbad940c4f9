use Rattle.std.proofs.Common.{◌≡◌, ◌≤◌, ◌+◌, ◌∙◌, length, take, sym, length-take-le}
use Rattle.alma_io.proofs.Known.{consumes_trans}
use Rattle.alma_io.proofs.ReadLemmas.{prefix_read, bytes_read, kept_within, piece_in, piece_some, more_left, ended_front, one_past}
use Rattle.alma_io.proofs.ReadLemmas.{none_past, at_most}
use Rattle.alma_io.proofs.whole.read_all.Goals as goal

pub returns-then-count-room-clause-prefix : goal.returns-then-count-room-clause-prefix
returns-then-count-room-clause-prefix g c =
    let whole : length (take c.min-most.result c.deref_mut.result.now) ≡ c.min-most.result
    = length-take-le c.min-most.result c.deref_mut.result.now
    (piece_in _ _ _ _ _ c.min-most.ensures c.len-in-loop-count.ensures c.deref_mut.ensures.len) in
    let items : length c.loop-count.bytes.items ≤ c.args.limit = rw (← c.loop-count.bytes.ok.0) c.loop-count.invariant.within in
    prefix_read _ _ _ c.loop-count.bytes.items (take c.in-Ok-read.count c.read.new.buf) (c.args.limit + 1) c.loop-count.invariant.front
    c.in-Ok-read.ensures.bytes.0 (at_most _ _
    (one_past c.in-Ok-read.count _ _ c.min-most.result _ c.len.result c.args.limit _ _ c.in-Ok-read.ensures.bound.0
    c.read.auto.buf whole c.min-most.ensures c.if-count-room.true c.in-Ok-read.ensures.bound.1 (c.len.ensures ∙ c.loop-count.bytes.ok.0)
    items))

pub returns-then-count-room-clause-one_past : goal.returns-then-count-room-clause-one_past
returns-then-count-room-clause-one_past g c same =
    let whole : length (take c.min-most.result c.deref_mut.result.now) ≡ c.min-most.result
    = length-take-le c.min-most.result c.deref_mut.result.now
    (piece_in _ _ _ _ _ c.min-most.ensures c.len-in-loop-count.ensures c.deref_mut.ensures.len) in
    let items : length c.loop-count.bytes.items ≤ c.args.limit = rw (← c.loop-count.bytes.ok.0) c.loop-count.invariant.within in
    bytes_read _ _ _ c.loop-count.bytes.items (take c.in-Ok-read.count c.read.new.buf) (c.args.limit + 1) c.loop-count.invariant.front
    c.in-Ok-read.ensures.bytes.0 (one_past c.in-Ok-read.count _ _ c.min-most.result _ c.len.result c.args.limit _ _
    c.in-Ok-read.ensures.bound.0
    c.read.auto.buf whole c.min-most.ensures c.if-count-room.true c.in-Ok-read.ensures.bound.1 (c.len.ensures ∙ c.loop-count.bytes.ok.0)
    items)

pub returns-then-is_err-clause-prefix : goal.returns-then-is_err-clause-prefix
returns-then-is_err-clause-prefix g c =
    let items : length c.loop-count.bytes.items ≤ c.args.limit = rw (← c.loop-count.bytes.ok.0) c.loop-count.invariant.within in
    prefix_read _ _ _ c.loop-count.bytes.items (take c.in-Ok-read.count c.read.new.buf) (c.args.limit + 1) c.loop-count.invariant.front
    c.in-Ok-read.ensures.bytes.0 (none_past c.in-Ok-read.count c.len.result c.args.limit _ _ c.if-count-room.false
    c.in-Ok-read.ensures.bound.1
    (c.len.ensures ∙ c.loop-count.bytes.ok.0) items)

pub loop-count-preserved : goal.loop-count-preserved
loop-count-preserved g c =
    let items = rw c.if-is_err.ensures.negation at c.extend_from_slice.ensures.items in
    let len = rw c.if-is_err.ensures.negation at c.extend_from_slice.ensures.len in
    let room = rw c.len.ensures at c.if-count-room.false in
    record {
      within = kept_within _ _ _ _ _ room c.in-Ok-read.ensures.bound.1 c.loop-count.invariant.within len;
      chunk = c.loop-count.invariant.chunk;
      front = rw items (consumes_trans _ _ _ c.loop-count.bytes.items _ c.loop-count.invariant.front c.in-Ok-read.ensures.bytes.0);
      quiet = c.in-Ok-read.ensures.cause.ok ∙ c.loop-count.invariant.quiet;
    }

pub overflow_sub-room : goal.overflow_sub-room
overflow_sub-room g c = rw c.len.ensures c.loop-count.invariant.within

pub slice_bounds-extend_from_slice-end : goal.slice_bounds-extend_from_slice-end
slice_bounds-extend_from_slice-end g c = c.in-Ok-read.ensures.bound.1

pub slice_bounds-piece-end : goal.slice_bounds-piece-end
slice_bounds-piece-end g c =
    sym (length-take-le c.min-most.result c.deref_mut.result.now
    (piece_in _ _ _ _ _ c.min-most.ensures c.len-in-loop-count.ensures c.deref_mut.ensures.len))

pub returns-then-count-room-clause-too_long : goal.returns-then-count-room-clause-too_long
returns-then-count-room-clause-too_long g c same =
    more_left _ _ _ c.loop-count.bytes.items (take c.in-Ok-read.count c.read.new.buf) _ _ c.args.limit c.loop-count.invariant.front
    c.in-Ok-read.ensures.bytes.0 c.if-count-room.true c.in-Ok-read.ensures.bound.1 (c.len.ensures ∙ c.loop-count.bytes.ok.0)

pub returns-then-count-eq0-clause-all : goal.returns-then-count-eq0-clause-all
returns-then-count-eq0-clause-all g c =
    let whole : length (take c.min-most.result c.deref_mut.result.now) ≡ c.min-most.result
    = length-take-le c.min-most.result c.deref_mut.result.now
    (piece_in _ _ _ _ _ c.min-most.ensures c.len-in-loop-count.ensures c.deref_mut.ensures.len) in (
      ended_front _ _ _ c.loop-count.bytes.items (take c.in-Ok-read.count c.read.new.buf) c.loop-count.invariant.front
          c.in-Ok-read.ensures.bytes.0
          (sym c.in-Ok-read.ensures.bound.1 ∙ c.if-count-eq0.true),
      c.in-Ok-read.ensures.bytes.1 c.if-count-eq0.true
          (piece_some _ _ _ _ _ _ c.min-most.ensures c.len-in-loop-count.ensures c.loop-count.invariant.chunk c.read.auto.buf whole),
    )
