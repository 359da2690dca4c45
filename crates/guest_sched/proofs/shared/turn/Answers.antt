use Rattle.std.proofs.Common.{◌≡◌, inl, inr, ℕ, true, ◌<◌, List, [], ◌∷◌, ◌++◌, length, set, get_or, Some, None, refl, ap, sym, subst, ◌∙◌, arith}
use Rattle.board.specs.ScriptForm.{is_script}
use Rattle.frame_pool.specs.declared.Pool.{Pool}
use Rattle.guest_sched.specs.Known.{AreKnown}
use Rattle.guest_sched.specs.Pieces.{Piece}
use Rattle.guest_sched.specs.Rounds.{GoesRound, MakesTurn}
use Rattle.guest_sched.specs.Since.{Since, released_since}
use Rattle.guest_sched.specs.Stages.{Stage, stage}
use Rattle.guest_sched.specs.declared.kernel.Kernel.{Kernel}
use Rattle.guest_sched.specs.declared.tenants.Tenant.{Tenant}
use Rattle.guest_sched.proofs.Between.{next_slice}
use Rattle.guest_sched.proofs.Brought.{get_or_any}
use Rattle.guest_sched.proofs.Furthered.{skipped_between}
use Rattle.guest_sched.proofs.Ready.{counts_of, counts_same, live_of, met_of, brought_at, known_at, ready_at, stop_same, goes_on_at, bound_at, room_at, comes_in, went_at, failed_at, on_ok_both, on_err_then}
use Rattle.guest_sched.proofs.shared.turn.Goals as goal
use Rattle.guest_sched.proofs.Wide.{IsBetween}

-- before the turn
abbrev stage_ready : List Tenant → Pool → ℕ → List ℕ → Stage
stage_ready ts pool present host = record { tenants = ts; pool = pool; present = present; memory = host }

-- after the turn
abbrev stage_of : List Tenant → ℕ → Tenant → Pool → List ℕ → ℕ → Stage
stage_of ts n t pool host present = record { tenants = set ts n t; pool = pool; present = present; memory = host }

pub index-requires : goal.index-requires
index-requires g c =
    let s = c.requires.next in
    let len = s.between.rooms.len in
    let low = (next_slice _ s.whole s.done c.args.slice.now s.next).known in
    omega (arith, len, low)

pub returns-then-is_some-clause-turned : goal.returns-then-is_some-clause-turned
returns-then-is_some-clause-turned g c whole done pieces before was next b =
    let met = met_of c.index.result.now.stop c.is_some.result c.is_some.ensures c.if-is_some.true in
    let is : c.index.result.now.stop ≡ Some met.0 = met.1 in
    let low = (next_slice _ whole done c.args.slice.now next).known in
    let n = b.rooms.len in
    let x = skipped_between c.args.kernels.now.items c.args.tenants.now.frames whole done pieces c.args.tenants.now.list.items
    c.args.tenants.now.pool c.args.tenants.now.present (g.H.Host.bytes c.args.host.now) before
    (counts_of (g.H.Host.retired c.args.host.now) (g.H.Host.passed c.args.host.now)) was (g.O.Sink.taken c.args.out.now)
    b c.args.slice.now next c.index.result.now met.0 (ap (λ (t : Tenant). t.stop) (sym c.index.ensures) ∙ is) in (
      x.0,
      x.1,
      λ since known. (
        since,
        inl (record {
          stop = met.0;
          met = λ d. ap (λ (t : Tenant). t.stop)
              (get_or_any c.args.tenants.now.list.items c.args.slice.now.kernel d c.index.result.now (omega (arith, n, low))
              ∙ sym c.index.ensures) ∙ is;
          same = refl;
          same_since = refl;
        }),
        known,
      ),
    )

pub returns-then-is_some-clause-frames : goal.returns-then-is_some-clause-frames
returns-then-is_some-clause-frames g c = refl

pub returns-then-is_some-clause-started : goal.returns-then-is_some-clause-started
returns-then-is_some-clause-started g c = c.requires.started

pub returns-then-is_some-clause-kept : goal.returns-then-is_some-clause-kept
returns-then-is_some-clause-kept g c = refl

pub bring-requires-clause-started : goal.bring-requires-clause-started
bring-requires-clause-started g c = c.requires.started

pub bring-requires-clause-known : goal.bring-requires-clause-known
bring-requires-clause-known g c =
    let s = c.requires.next in
    let len = s.between.rooms.len in
    let low = (next_slice _ s.whole s.done c.args.slice.now s.next).known in
    let lt : c.args.slice.now.kernel < length c.args.tenants.now.list.items = omega (arith, len, low) in
    lt

pub bring-requires-clause-present : goal.bring-requires-clause-present
bring-requires-clause-present g c = c.requires.next.between.rooms.there

pub bring-requires-clause-theirs : goal.bring-requires-clause-theirs
bring-requires-clause-theirs g c = c.requires.next.between.rooms.theirs

pub bring-requires-clause-room : goal.bring-requires-clause-room
bring-requires-clause-room g c = c.requires.next.between.rooms.room

pub make_room-requires-clause-started : goal.make_room-requires-clause-started
make_room-requires-clause-started g c = c.bring.ensures.started

pub make_room-requires-clause-may : goal.make_room-requires-clause-may
make_room-requires-clause-may g c =
    let s = c.requires.next in
    let len = s.between.rooms.len in
    let low = (next_slice _ s.whole s.done c.args.slice.now s.next).known in
    let lt : c.args.slice.now.kernel < length c.args.tenants.now.list.items = omega (arith, len, low) in
    let b = brought_at c.args.kernels.now.items s.whole s.done s.pieces s.before
    (counts_of (g.H.Host.retired c.args.host.now) (g.H.Host.passed c.args.host.now))
    (counts_of (g.H.Host.retired c.bring.new.host) (g.H.Host.passed c.bring.new.host))
    (counts_of (g.H.Host.retired c.bring.new.host) (g.H.Host.passed c.bring.new.host)) s.old (g.O.Sink.taken c.args.out.now)
    c.args.slice.now.kernel c.args.tenants.now c.bring.new.self c.bring.new.self
    (g.H.Host.bytes c.args.host.now) (g.H.Host.bytes c.bring.new.host) (g.H.Host.bytes c.bring.new.host) c.bring.ensures.brought
    c.bring.ensures.rest lt (counts_same _ _ _ _ c.bring.ensures.retired c.bring.ensures.passed) s.between in
    record {
      there = b.rooms.there;
      theirs = b.rooms.theirs;
      apart = (c.args.kernels.now.items, sym b.rooms.len, b.apart);
      pool = (let n = b.rooms.len in let four = b.rooms.four in omega (arith, n, four), b.rooms.pool_is);
    }

pub index_mut-tenant-requires : goal.index_mut-tenant-requires
index_mut-tenant-requires g c =
    let s = c.requires.next in
    let len = s.between.rooms.len in
    let low = (next_slice _ s.whole s.done c.args.slice.now s.next).known in
    let lt : c.args.slice.now.kernel < length c.args.tenants.now.list.items = omega (arith, len, low) in
    let b = ready_at c.args.kernels.now.items s.whole s.done s.pieces s.before
    (counts_of (g.H.Host.retired c.args.host.now) (g.H.Host.passed c.args.host.now))
    (counts_of (g.H.Host.retired c.bring.new.host) (g.H.Host.passed c.bring.new.host))
    (counts_of (g.H.Host.retired c.make_room.new.host) (g.H.Host.passed c.make_room.new.host)) s.old (g.O.Sink.taken c.args.out.now)
    c.args.slice.now.kernel c.args.tenants.now c.bring.new.self c.make_room.new.self
    (g.H.Host.bytes c.args.host.now) (g.H.Host.bytes c.bring.new.host) (g.H.Host.bytes c.make_room.new.host) c.bring.ensures.brought
    c.bring.ensures.rest lt (counts_same _ _ _ _ c.bring.ensures.retired c.bring.ensures.passed) s.between
    c.make_room.ensures.made c.make_room.ensures.theirs c.make_room.ensures.size c.make_room.ensures.apart c.make_room.ensures.stay
    c.make_room.ensures.rest (counts_same _ _ _ _ c.make_room.ensures.retired c.make_room.ensures.passed) in
    let there = b.rooms.there in omega (arith, there)

pub index-requires-2 : goal.index-requires-2
index-requires-2 g c = let low =
    (next_slice _ c.requires.next.whole c.requires.next.done c.args.slice.now c.requires.next.next).known in omega (arith, low)

pub go_on-requires-clause-number : goal.go_on-requires-clause-number
go_on-requires-clause-number g c =
    let four = c.requires.next.between.rooms.four in
    let low = (next_slice _ c.requires.next.whole c.requires.next.done c.args.slice.now c.requires.next.next).known in
    omega (arith, four, low)

pub go_on-requires-clause-started : goal.go_on-requires-clause-started
go_on-requires-clause-started g c = c.make_room.ensures.started

pub go_on-requires-clause-takes : goal.go_on-requires-clause-takes
go_on-requires-clause-takes g c =
    let s = c.requires.next in
    let len = s.between.rooms.len in
    let low = (next_slice _ s.whole s.done c.args.slice.now s.next).known in
    let lt : c.args.slice.now.kernel < length c.args.tenants.now.list.items = omega (arith, len, low) in
    let b = ready_at c.args.kernels.now.items s.whole s.done s.pieces s.before
    (counts_of (g.H.Host.retired c.args.host.now) (g.H.Host.passed c.args.host.now))
    (counts_of (g.H.Host.retired c.bring.new.host) (g.H.Host.passed c.bring.new.host))
    (counts_of (g.H.Host.retired c.make_room.new.host) (g.H.Host.passed c.make_room.new.host)) s.old (g.O.Sink.taken c.args.out.now)
    c.args.slice.now.kernel c.args.tenants.now c.bring.new.self c.make_room.new.self
    (g.H.Host.bytes c.args.host.now) (g.H.Host.bytes c.bring.new.host) (g.H.Host.bytes c.make_room.new.host) c.bring.ensures.brought
    c.bring.ensures.rest lt (counts_same _ _ _ _ c.bring.ensures.retired c.bring.ensures.passed) s.between
    c.make_room.ensures.made c.make_room.ensures.theirs c.make_room.ensures.size c.make_room.ensures.apart c.make_room.ensures.stay
    c.make_room.ensures.rest (counts_same _ _ _ _ c.make_room.ensures.retired c.make_room.ensures.passed) in
    let live0 = live_of c.index.result.now.stop c.is_some.result c.is_some.ensures c.if-is_some.false in
    let d = c.index_mut-tenant.result.now in
    let kept = stop_same c.args.kernels.now.items s.whole s.done s.pieces s.before
    (counts_of (g.H.Host.retired c.args.host.now) (g.H.Host.passed c.args.host.now))
    (counts_of (g.H.Host.retired c.bring.new.host) (g.H.Host.passed c.bring.new.host))
    (counts_of (g.H.Host.retired c.make_room.new.host) (g.H.Host.passed c.make_room.new.host)) s.old (g.O.Sink.taken c.args.out.now)
    c.args.slice.now.kernel c.args.tenants.now c.bring.new.self c.make_room.new.self
    (g.H.Host.bytes c.args.host.now) (g.H.Host.bytes c.bring.new.host) (g.H.Host.bytes c.make_room.new.host) c.bring.ensures.brought
    c.bring.ensures.rest lt (counts_same _ _ _ _ c.bring.ensures.retired c.bring.ensures.passed) s.between
    c.make_room.ensures.made c.make_room.ensures.theirs c.make_room.ensures.size c.make_room.ensures.apart c.make_room.ensures.stay
    c.make_room.ensures.rest (counts_same _ _ _ _ c.make_room.ensures.retired c.make_room.ensures.passed) d in
    let at0 = get_or_any c.args.tenants.now.list.items c.args.slice.now.kernel c.index.result.now d lt in
    let live : d.stop ≡ None = ap (λ (t : Tenant). t.stop) c.index_mut-tenant.ensures.value ∙ kept ∙ ap (λ (t : Tenant). t.stop) (sym at0)
    ∙ ap (λ (t : Tenant). t.stop) (sym c.index.ensures) ∙ live0 in
    let e = c.make_room.ensures.released.enough d in
    let same = ap (λ n. (get_or c.make_room.new.self.list.items n d).guest.held) (c.make_room.ensures.rest.1 ∙ c.bring.ensures.rest.2) in
    let value = ap (λ (t : Tenant). t.guest.held) c.index_mut-tenant.ensures.value in
    record {
      fresh = live;
      goes_on =
          goes_on_at c.args.kernels.now.items c.args.tenants.now.frames s.whole s.done s.pieces c.make_room.new.self.list.items
          c.make_room.new.self.pool (g.H.Host.bytes c.make_room.new.host) s.before
          (counts_of (g.H.Host.retired c.make_room.new.host) (g.H.Host.passed c.make_room.new.host)) s.old (g.O.Sink.taken c.args.out.now)
          c.args.slice.now b s.next
          c.index-2.result.now d c.index-2.ensures c.index_mut-tenant.ensures.value live;
      enough = omega (arith, e, same, value);
    }

pub go_on-requires-clause-script : goal.go_on-requires-clause-script
go_on-requires-clause-script g c =
    let low = (next_slice _ c.requires.next.whole c.requires.next.done c.args.slice.now c.requires.next.next).known in
    subst (λ (k : Kernel). is_script k.script.list ≡ true) (sym c.index-2.ensures)
    (c.requires.scripts c.args.slice.now.kernel c.index-2.result.now low)

pub go_on-requires-clause-bound : goal.go_on-requires-clause-bound
go_on-requires-clause-bound g c =
    let s = c.requires.next in
    let len = s.between.rooms.len in
    let low = (next_slice _ s.whole s.done c.args.slice.now s.next).known in
    let lt : c.args.slice.now.kernel < length c.args.tenants.now.list.items = omega (arith, len, low) in
    let b = ready_at c.args.kernels.now.items s.whole s.done s.pieces s.before
    (counts_of (g.H.Host.retired c.args.host.now) (g.H.Host.passed c.args.host.now))
    (counts_of (g.H.Host.retired c.bring.new.host) (g.H.Host.passed c.bring.new.host))
    (counts_of (g.H.Host.retired c.make_room.new.host) (g.H.Host.passed c.make_room.new.host)) s.old (g.O.Sink.taken c.args.out.now)
    c.args.slice.now.kernel c.args.tenants.now c.bring.new.self c.make_room.new.self
    (g.H.Host.bytes c.args.host.now) (g.H.Host.bytes c.bring.new.host) (g.H.Host.bytes c.make_room.new.host) c.bring.ensures.brought
    c.bring.ensures.rest lt (counts_same _ _ _ _ c.bring.ensures.retired c.bring.ensures.passed) s.between
    c.make_room.ensures.made c.make_room.ensures.theirs c.make_room.ensures.size c.make_room.ensures.apart c.make_room.ensures.stay
    c.make_room.ensures.rest (counts_same _ _ _ _ c.make_room.ensures.retired c.make_room.ensures.passed) in
    let live0 = live_of c.index.result.now.stop c.is_some.result c.is_some.ensures c.if-is_some.false in
    let d = c.index_mut-tenant.result.now in
    let kept = stop_same c.args.kernels.now.items s.whole s.done s.pieces s.before
    (counts_of (g.H.Host.retired c.args.host.now) (g.H.Host.passed c.args.host.now))
    (counts_of (g.H.Host.retired c.bring.new.host) (g.H.Host.passed c.bring.new.host))
    (counts_of (g.H.Host.retired c.make_room.new.host) (g.H.Host.passed c.make_room.new.host)) s.old (g.O.Sink.taken c.args.out.now)
    c.args.slice.now.kernel c.args.tenants.now c.bring.new.self c.make_room.new.self
    (g.H.Host.bytes c.args.host.now) (g.H.Host.bytes c.bring.new.host) (g.H.Host.bytes c.make_room.new.host) c.bring.ensures.brought
    c.bring.ensures.rest lt (counts_same _ _ _ _ c.bring.ensures.retired c.bring.ensures.passed) s.between
    c.make_room.ensures.made c.make_room.ensures.theirs c.make_room.ensures.size c.make_room.ensures.apart c.make_room.ensures.stay
    c.make_room.ensures.rest (counts_same _ _ _ _ c.make_room.ensures.retired c.make_room.ensures.passed) d in
    let at0 = get_or_any c.args.tenants.now.list.items c.args.slice.now.kernel c.index.result.now d lt in
    let live : d.stop ≡ None = ap (λ (t : Tenant). t.stop) c.index_mut-tenant.ensures.value ∙ kept ∙ ap (λ (t : Tenant). t.stop) (sym at0)
    ∙ ap (λ (t : Tenant). t.stop) (sym c.index.ensures) ∙ live0 in
    bound_at c.args.kernels.now.items c.args.tenants.now.frames s.whole s.done s.pieces c.make_room.new.self.list.items
    c.make_room.new.self.pool (g.H.Host.bytes c.make_room.new.host) s.before
    (counts_of (g.H.Host.retired c.make_room.new.host) (g.H.Host.passed c.make_room.new.host)) s.old (g.O.Sink.taken c.args.out.now)
    c.args.slice.now b s.next
    c.index-2.result.now d c.index-2.ensures c.index_mut-tenant.ensures.value live

pub go_on-requires-clause-room : goal.go_on-requires-clause-room
go_on-requires-clause-room g c =
    let s = c.requires.next in
    let len = s.between.rooms.len in
    let low = (next_slice _ s.whole s.done c.args.slice.now s.next).known in
    let lt : c.args.slice.now.kernel < length c.args.tenants.now.list.items = omega (arith, len, low) in
    let b = ready_at c.args.kernels.now.items s.whole s.done s.pieces s.before
    (counts_of (g.H.Host.retired c.args.host.now) (g.H.Host.passed c.args.host.now))
    (counts_of (g.H.Host.retired c.bring.new.host) (g.H.Host.passed c.bring.new.host))
    (counts_of (g.H.Host.retired c.make_room.new.host) (g.H.Host.passed c.make_room.new.host)) s.old (g.O.Sink.taken c.args.out.now)
    c.args.slice.now.kernel c.args.tenants.now c.bring.new.self c.make_room.new.self
    (g.H.Host.bytes c.args.host.now) (g.H.Host.bytes c.bring.new.host) (g.H.Host.bytes c.make_room.new.host) c.bring.ensures.brought
    c.bring.ensures.rest lt (counts_same _ _ _ _ c.bring.ensures.retired c.bring.ensures.passed) s.between
    c.make_room.ensures.made c.make_room.ensures.theirs c.make_room.ensures.size c.make_room.ensures.apart c.make_room.ensures.stay
    c.make_room.ensures.rest (counts_same _ _ _ _ c.make_room.ensures.retired c.make_room.ensures.passed) in
    room_at (g.H.Host.retired c.make_room.new.host) 0 s.before _ s.whole s.done c.args.slice.now s.next b.retired s.few

pub returns-clause-frames : goal.returns-clause-frames
returns-clause-frames g c = c.make_room.ensures.rest.0 ∙ c.bring.ensures.rest.1

pub returns-clause-turned : goal.returns-clause-turned
returns-clause-turned g c =
    let s = c.requires.next in
    let len = s.between.rooms.len in
    let low = (next_slice _ s.whole s.done c.args.slice.now s.next).known in
    let lt : c.args.slice.now.kernel < length c.args.tenants.now.list.items = omega (arith, len, low) in
    let live0 = live_of c.index.result.now.stop c.is_some.result c.is_some.ensures c.if-is_some.false in
    let d = c.index_mut-tenant.result.now in
    let kept = stop_same c.args.kernels.now.items s.whole s.done s.pieces s.before
    (counts_of (g.H.Host.retired c.args.host.now) (g.H.Host.passed c.args.host.now))
    (counts_of (g.H.Host.retired c.bring.new.host) (g.H.Host.passed c.bring.new.host))
    (counts_of (g.H.Host.retired c.make_room.new.host) (g.H.Host.passed c.make_room.new.host)) s.old (g.O.Sink.taken c.args.out.now)
    c.args.slice.now.kernel c.args.tenants.now c.bring.new.self c.make_room.new.self
    (g.H.Host.bytes c.args.host.now) (g.H.Host.bytes c.bring.new.host) (g.H.Host.bytes c.make_room.new.host) c.bring.ensures.brought
    c.bring.ensures.rest lt (counts_same _ _ _ _ c.bring.ensures.retired c.bring.ensures.passed) s.between
    c.make_room.ensures.made c.make_room.ensures.theirs c.make_room.ensures.size c.make_room.ensures.apart c.make_room.ensures.stay
    c.make_room.ensures.rest (counts_same _ _ _ _ c.make_room.ensures.retired c.make_room.ensures.passed) d in
    let at0 = get_or_any c.args.tenants.now.list.items c.args.slice.now.kernel c.index.result.now d lt in
    let live : d.stop ≡ None = ap (λ (t : Tenant). t.stop) c.index_mut-tenant.ensures.value ∙ kept ∙ ap (λ (t : Tenant). t.stop) (sym at0)
    ∙ ap (λ (t : Tenant). t.stop) (sym c.index.ensures) ∙ live0 in
    on_ok_both c.go_on.result c.go_on.ensures.turned c.go_on.ensures.gone (λ turned gone whole done pieces before was next b0.
    let b = ready_at c.args.kernels.now.items whole done pieces before
    (counts_of (g.H.Host.retired c.args.host.now) (g.H.Host.passed c.args.host.now))
    (counts_of (g.H.Host.retired c.bring.new.host) (g.H.Host.passed c.bring.new.host))
    (counts_of (g.H.Host.retired c.make_room.new.host) (g.H.Host.passed c.make_room.new.host)) was (g.O.Sink.taken c.args.out.now)
    c.args.slice.now.kernel c.args.tenants.now c.bring.new.self c.make_room.new.self
    (g.H.Host.bytes c.args.host.now) (g.H.Host.bytes c.bring.new.host) (g.H.Host.bytes c.make_room.new.host) c.bring.ensures.brought
    c.bring.ensures.rest lt (counts_same _ _ _ _ c.bring.ensures.retired c.bring.ensures.passed) b0
    c.make_room.ensures.made c.make_room.ensures.theirs c.make_room.ensures.size c.make_room.ensures.apart c.make_room.ensures.stay
    c.make_room.ensures.rest (counts_same _ _ _ _ c.make_room.ensures.retired c.make_room.ensures.passed) in
    let x = went_at c.args.kernels.now.items c.args.tenants.now.frames whole done pieces c.make_room.new.self.list.items
    c.make_room.new.self.pool (g.H.Host.bytes c.make_room.new.host) before
    (counts_of (g.H.Host.retired c.make_room.new.host) (g.H.Host.passed c.make_room.new.host)) was (g.O.Sink.taken c.args.out.now)
    c.args.slice.now b next
    c.index-2.result.now d c.index-2.ensures c.index_mut-tenant.ensures.value live c.go_on.new.tenant c.go_on.new.pool
    (g.H.Host.bytes c.go_on.new.host) (counts_of (g.H.Host.retired c.go_on.new.host) (g.H.Host.passed c.go_on.new.host))
    (g.O.Sink.taken c.go_on.new.out) turned gone in
    let there : c.make_room.new.self.present ≡ c.args.slice.now.kernel = c.make_room.ensures.rest.1 ∙ c.bring.ensures.rest.2 in
    subst (λ n. (p : Piece)
    × IsBetween c.args.kernels.now.items c.args.tenants.now.frames whole (done ++ c.args.slice.now ∷ []) (pieces ++ p ∷ [])
    (set c.make_room.new.self.list.items c.args.slice.now.kernel c.go_on.new.tenant) c.go_on.new.pool n
    (g.H.Host.bytes c.go_on.new.host) before
    (counts_of (g.H.Host.retired c.go_on.new.host) (g.H.Host.passed c.go_on.new.host)) was (g.O.Sink.taken c.go_on.new.out)
    × ((since : ℕ → Since) → AreKnown c.args.kernels.now.items c.args.tenants.now.frames since
    (stage c.args.tenants.now (g.H.Host.bytes c.args.host.now))
    → (then_ : ℕ → Since) × GoesRound c.args.kernels.now.items c.args.tenants.now.frames c.args.slice.now p
    (stage c.args.tenants.now (g.H.Host.bytes c.args.host.now)) (stage_of c.make_room.new.self.list.items c.args.slice.now.kernel
    c.go_on.new.tenant c.go_on.new.pool (g.H.Host.bytes c.go_on.new.host) n) since then_
    × AreKnown c.args.kernels.now.items c.args.tenants.now.frames then_ (stage_of c.make_room.new.self.list.items c.args.slice.now.kernel
    c.go_on.new.tenant c.go_on.new.pool (g.H.Host.bytes c.go_on.new.host) n))) (sym there) (
      x.0,
      x.1,
      λ since known.
          let before_known = known_at c.args.kernels.now.items whole done pieces before
          (counts_of (g.H.Host.retired c.args.host.now) (g.H.Host.passed c.args.host.now))
          (counts_of (g.H.Host.retired c.bring.new.host) (g.H.Host.passed c.bring.new.host))
          (counts_of (g.H.Host.retired c.make_room.new.host) (g.H.Host.passed c.make_room.new.host)) was (g.O.Sink.taken c.args.out.now)
          c.args.slice.now.kernel c.args.tenants.now c.bring.new.self c.make_room.new.self
          (g.H.Host.bytes c.args.host.now) (g.H.Host.bytes c.bring.new.host) (g.H.Host.bytes c.make_room.new.host) c.bring.ensures.brought
          c.bring.ensures.rest lt (counts_same _ _ _ _ c.bring.ensures.retired c.bring.ensures.passed) b0
          c.make_room.ensures.made c.make_room.ensures.theirs c.make_room.ensures.size c.make_room.ensures.apart c.make_room.ensures.stay
          c.make_room.ensures.rest (counts_same _ _ _ _ c.make_room.ensures.retired c.make_room.ensures.passed) c.carry_laws.ensures
          c.make_room.ensures.released since known in
          let y =
          x.2 c.carry_laws.ensures (released_since c.make_room.ensures.released.count c.args.slice.now.kernel since) before_known in
          let come = comes_in c.args.slice.now c.args.tenants.now c.bring.new.self c.make_room.new.self (g.H.Host.bytes c.args.host.now)
          (g.H.Host.bytes c.bring.new.host) (g.H.Host.bytes c.make_room.new.host)
          (λ e. ap (λ (t : Tenant). t.stop) (get_or_any c.args.tenants.now.list.items c.args.slice.now.kernel e c.index.result.now lt
          ∙ sym c.index.ensures) ∙ live0)
          c.bring.ensures.brought c.bring.ensures.rest.0 c.bring.ensures.rest.2 there c.make_room.ensures.released in (
            y.0,
            inr (record {
              ready = record {
                tenants = c.make_room.new.self.list.items;
                pool = c.make_room.new.self.pool;
                present = c.args.slice.now.kernel;
                memory = g.H.Host.bytes c.make_room.new.host;
              };
              comes = come.0;
              turn = subst (λ (n : ℕ). MakesTurn c.args.kernels.now.items c.args.tenants.now.frames c.args.slice.now x.0
                  (stage_ready c.make_room.new.self.list.items c.make_room.new.self.pool c.args.slice.now.kernel
                  (g.H.Host.bytes c.make_room.new.host))
                  (stage_of c.make_room.new.self.list.items c.args.slice.now.kernel c.go_on.new.tenant c.go_on.new.pool
                  (g.H.Host.bytes c.go_on.new.host) c.args.slice.now.kernel) (released_since n c.args.slice.now.kernel since) y.0)
                  (sym come.1) y.1;
            }),
            y.2,
          ),
    ))

pub returns-clause-failed : goal.returns-clause-failed
returns-clause-failed g c =
    let s = c.requires.next in
    let len = s.between.rooms.len in
    let low = (next_slice _ s.whole s.done c.args.slice.now s.next).known in
    let lt : c.args.slice.now.kernel < length c.args.tenants.now.list.items = omega (arith, len, low) in
    let live0 = live_of c.index.result.now.stop c.is_some.result c.is_some.ensures c.if-is_some.false in
    let d = c.index_mut-tenant.result.now in
    let kept = stop_same c.args.kernels.now.items s.whole s.done s.pieces s.before
    (counts_of (g.H.Host.retired c.args.host.now) (g.H.Host.passed c.args.host.now))
    (counts_of (g.H.Host.retired c.bring.new.host) (g.H.Host.passed c.bring.new.host))
    (counts_of (g.H.Host.retired c.make_room.new.host) (g.H.Host.passed c.make_room.new.host)) s.old (g.O.Sink.taken c.args.out.now)
    c.args.slice.now.kernel c.args.tenants.now c.bring.new.self c.make_room.new.self
    (g.H.Host.bytes c.args.host.now) (g.H.Host.bytes c.bring.new.host) (g.H.Host.bytes c.make_room.new.host) c.bring.ensures.brought
    c.bring.ensures.rest lt (counts_same _ _ _ _ c.bring.ensures.retired c.bring.ensures.passed) s.between
    c.make_room.ensures.made c.make_room.ensures.theirs c.make_room.ensures.size c.make_room.ensures.apart c.make_room.ensures.stay
    c.make_room.ensures.rest (counts_same _ _ _ _ c.make_room.ensures.retired c.make_room.ensures.passed) d in
    let at0 = get_or_any c.args.tenants.now.list.items c.args.slice.now.kernel c.index.result.now d lt in
    let live : d.stop ≡ None = ap (λ (t : Tenant). t.stop) c.index_mut-tenant.ensures.value ∙ kept ∙ ap (λ (t : Tenant). t.stop) (sym at0)
    ∙ ap (λ (t : Tenant). t.stop) (sym c.index.ensures) ∙ live0 in
    on_err_then c.go_on.result c.go_on.ensures.failed (λ failed whole done pieces before was next b0 since gone.
    let b = ready_at c.args.kernels.now.items whole done pieces before
    (counts_of (g.H.Host.retired c.args.host.now) (g.H.Host.passed c.args.host.now))
    (counts_of (g.H.Host.retired c.bring.new.host) (g.H.Host.passed c.bring.new.host))
    (counts_of (g.H.Host.retired c.make_room.new.host) (g.H.Host.passed c.make_room.new.host)) was (g.O.Sink.taken c.args.out.now)
    c.args.slice.now.kernel c.args.tenants.now c.bring.new.self c.make_room.new.self
    (g.H.Host.bytes c.args.host.now) (g.H.Host.bytes c.bring.new.host) (g.H.Host.bytes c.make_room.new.host) c.bring.ensures.brought
    c.bring.ensures.rest lt (counts_same _ _ _ _ c.bring.ensures.retired c.bring.ensures.passed) b0
    c.make_room.ensures.made c.make_room.ensures.theirs c.make_room.ensures.size c.make_room.ensures.apart c.make_room.ensures.stay
    c.make_room.ensures.rest (counts_same _ _ _ _ c.make_room.ensures.retired c.make_room.ensures.passed) in
    failed_at c.args.kernels.now.items c.args.tenants.now.frames whole done pieces c.make_room.new.self.list.items c.make_room.new.self.pool
    (g.H.Host.bytes c.make_room.new.host) before (counts_of (g.H.Host.retired c.make_room.new.host) (g.H.Host.passed c.make_room.new.host))
    was (g.O.Sink.taken c.args.out.now) c.args.slice.now b next
    c.index-2.result.now d c.index-2.ensures c.index_mut-tenant.ensures.value live (g.O.Sink.taken c.go_on.new.out) failed
    (λ p begins. record {
      between = stage c.args.tenants.now (g.H.Host.bytes c.args.host.now);
      since = since;
      gone = gone;
      ready = record {
        tenants = c.make_room.new.self.list.items;
        pool = c.make_room.new.self.pool;
        present = c.args.slice.now.kernel;
        memory = g.H.Host.bytes c.make_room.new.host;
      };
      comes = (comes_in c.args.slice.now c.args.tenants.now c.bring.new.self c.make_room.new.self (g.H.Host.bytes c.args.host.now)
          (g.H.Host.bytes c.bring.new.host) (g.H.Host.bytes c.make_room.new.host)
          (λ e. ap (λ (t : Tenant). t.stop) (get_or_any c.args.tenants.now.list.items c.args.slice.now.kernel e c.index.result.now lt
          ∙ sym c.index.ensures) ∙ live0)
          c.bring.ensures.brought c.bring.ensures.rest.0 c.bring.ensures.rest.2 (c.make_room.ensures.rest.1 ∙ c.bring.ensures.rest.2)
          c.make_room.ensures.released).0;
      turn = begins;
    }))

pub returns-clause-started : goal.returns-clause-started
returns-clause-started g c = c.go_on.ensures.started

pub returns-clause-kept : goal.returns-clause-kept
returns-clause-kept g c = c.go_on.ensures.kept

pub returns-clause-cause : goal.returns-clause-cause
returns-clause-cause g c = c.go_on.ensures.cause
