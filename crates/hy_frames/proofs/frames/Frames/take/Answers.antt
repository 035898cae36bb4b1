use Rattle.std.proofs.Common.{◌≡◌, ◌<◌, length, ap, sym, ◌∙◌, subst, arith, rules, ℕ, vec_capacity, false, inl, inr, ◌≤◌, length-set}
use Rattle.std.proofs.lemmas.List.{length_push}
use Rattle.hy_frames.specs.FrameTable.{FrameTable, Frame, Sets, free_of, shared_of, count_of, occurrences}
use Rattle.hy_frames.specs.inside.Slots.{IsPut, bytes_or_zeros}
use Rattle.hy_frames.proofs.FrameLaws.{IsTaken, taken, known_numbers}
use Rattle.hy_frames.proofs.frames.Frames.take.Goals as goal
use Rattle.hy_frames.proofs.frames.Frames.take.Given as given

-- each unused number is the number of a slot
known : (g : given.Over) (c : goal.After-of g) → (f : ℕ) → 0 < occurrences f c.make_room.new.unused.items → f < length c.make_room.new.slots.items
known g c f stands =
    let s = c.self.inside in
    let table : FrameTable = record { max = s.max; frames = s.slots.items } in
    let same : occurrences f c.make_room.new.unused.items ≡ occurrences f s.unused.items = ap (occurrences f) c.make_room.ensures.unused in
    let within = known_numbers g.row.N table s.unused.items _ _ _ _ c.self.invariant f (omega arith) in
    omega (arith, ap length c.make_room.ensures.slots)

pub put-requires : goal.put-requires
put-requires g c = (omega arith, (search rules, (search rules, (search rules, known g c))))

-- the new frame's bytes are those that were asked for
slot : (g : given.Over) (c : goal.After-put g) → c.of.result ≡ record { count = 1; bytes = bytes_or_zeros g.row.N c.args.self.now.frames c.args.of; lent = false }
slot g c = c.of.ensures ∙ ap (λ bytes. record { count = 1; bytes = bytes; lent = false }) (c.fill.ensures.bytes ∙ ap (λ frames. bytes_or_zeros g.row.N frames c.args.of) (c.deref.ensures.value ∙ c.make_room.ensures.slots ∙ ap (λ (t : FrameTable). t.frames) c.self.view_is))

-- the frame is taken
after : (g : given.Over) (c : goal.After-put g) → IsTaken g.row.N (record { max = c.self.inside.max; frames = c.self.inside.slots.items }) (record { max = c.self.inside.max; frames = c.put.new.slots.items }) c.put.new.unused.items (vec_capacity c.put.new.unused) c.self.inside.shared (length c.spare.new.spares.items) (vec_capacity c.spare.new.spares) c.put.result c.of.result
after g c =
    let s = c.self.inside in
    let table : FrameTable = record { max = s.max; frames = s.slots.items } in
    let put_1 = subst (λ frames. IsPut frames c.make_room.new.unused.items c.put.new.slots.items c.put.new.unused.items c.of.result c.put.result) c.make_room.ensures.slots c.put.ensures.put in
    let put_2 = subst (λ unused. IsPut s.slots.items unused c.put.new.slots.items c.put.new.unused.items c.of.result c.put.result) c.make_room.ensures.unused put_1 in
    let free : free_of table ≡ c.free.result = ap free_of c.self.view_is ∙ sym c.free.ensures in
    let fits : length c.put.new.slots.items ≤ vec_capacity c.spare.new.spares = elim c.put.ensures.put [
      | inl reused ↦ omega (arith, ap length reused.1, length-set c.make_room.new.slots.items c.put.result c.of.result, c.make_room.ensures.pages, c.spare.ensures.room)
      | inr behind ↦ omega (arith, ap length behind.3, length_push c.make_room.new.slots.items c.of.result, c.in_ok-make_room.ensures.page_room behind.0, c.spare.ensures.room)
    ] in
    taken g.row.N table (vec_capacity s.unused) s.shared (length s.spares.items) (vec_capacity s.spares) (length c.spare.new.spares.items) (vec_capacity c.spare.new.spares) c.put.result c.of.result (omega (arith, c.spare.ensures.one_less, c.make_room.ensures.spares)) (ap (λ (x : Frame). x.count) c.of.ensures) (ap (λ (x : Frame). length x.bytes) c.of.ensures ∙ c.fill.ensures.size) (omega (arith, c.if-free-eq0.false)) s.unused.items c.put.new.slots.items c.put.new.unused.items (vec_capacity c.put.new.unused) c.self.invariant put_2 c.put.ensures.room_kept fits

pub invariant_of-self-2 : goal.invariant_of-self-2
invariant_of-self-2 g c = (after g c).sound

pub returns-clause-takes : goal.returns-clause-takes
returns-clause-takes g c =
    let t = after g c in
    let new : FrameTable = record { max = c.self.inside.max; frames = c.put.new.slots.items } in
    let free : c.free.result ≡ free_of (record { max = c.self.inside.max; frames = c.self.inside.slots.items }) = c.free.ensures ∙ ap free_of (sym c.self.view_is) in
    record {
      unused = ap (λ table. count_of table c.put.result) (sym c.self.view_is) ∙ t.unused_before;
      set = subst (λ frame. Sets c.args.self.now new c.put.result frame) (slot g c) (subst (λ old. Sets old new c.put.result c.of.result) c.self.view_is t.sets);
      free = omega (arith, c.free.ensures, t.used, c.if-free-eq0.false, free);
      shared = t.sharing ∙ ap shared_of c.self.view_is;
    }
