use Rattle.std.proofs.Common.{◌≡◌, ◌+◌, ◌*◌, ◌≤◌, ◌<◌, ℕ, List, length, get_or, refl, sym, ap, subst, ◌∙◌, arith}
use Rattle.std.specs.List.{All}
use Rattle.std.proofs.lemmas.List.{length-set}
use Rattle.frame_pool.specs.Pool.{count_of}
use Rattle.guest_sched.specs.Apart.{AreApart, EachStays}
use Rattle.guest_sched.specs.Releases.{FirstGiveWay}
use Rattle.guest_sched.specs.Seating.{seats_from, HasMadeRoom}
use Rattle.guest_sched.specs.Stages.{stage}
use Rattle.guest_sched.specs.declared.tenants.Tenant.{Tenant}
use Rattle.guest_sched.specs.declared.tenants.Tenants.{Tenants}
use Rattle.guest_sched.proofs.Brought.{any_of, left_rooms}
use Rattle.guest_sched.proofs.Rooms.{no_room_made, is_at, held_bound, over_host, stays_none, stays_then, then_other, then_each, then_held, then_stops}
use Rattle.guest_sched.proofs.Ways.{frames_are, gives_next}
use Rattle.guest_sched.proofs.tenants.Tenants.make_room.Goals as goal
use Rattle.guest_sched.proofs.tenants.Tenants.make_room.Goals.{then-kernel-self, else-kernel-self}

pub overflow_add-enough : goal.overflow_add-enough
overflow_add-enough g c =
    let l = c.loop-kernel in
    let i = l.invariant in
    let a = i.apart c.requires.may.apart.0 c.requires.may.apart.1 c.requires.may.apart.2 in
    let n = i.made.len in let there = c.requires.may.there in let same = i.present in let len = c.requires.may.apart.1 in
    let at = is_at l.self.frames l.self.pool (g.H.Host.bytes l.host) l.self.present 0 l.self.present c.requires.may.apart.0
    l.self.list.items c.index.result.now (omega (arith, n, there, same)) (len ∙ sym n) a.seated in
    let held = at.held in let all = a.all in let few = a.few in
    let x = c.free.ensures.count (g.H.Host.bytes l.host) in
    let y = c.held.ensures in
    let z = ap (λ (t : Tenant). t.guest.held) c.index.ensures in
    omega (arith, held, all, few, x, y, z)

pub release-requires-clause-stands : goal.release-requires-clause-stands
release-requires-clause-stands g c d =
    let l = c.loop-kernel in
    let i = l.invariant in
    let a = i.apart c.requires.may.apart.0 c.requires.may.apart.1 c.requires.may.apart.2 in
    let n = i.made.len in let lt = c.loop-kernel-test.true in let e = c.len-kernel-end.ensures in
    (over_host l.self.frames l.self.pool (g.H.Host.bytes l.host) _ _ a.behind
    (is_at l.self.frames l.self.pool (g.H.Host.bytes l.host) l.self.present 0 l.kernel c.requires.may.apart.0 l.self.list.items d
    (omega (arith, n, lt, e)) (c.requires.may.apart.1 ∙ sym n) a.seated)).0

pub release-requires-clause-owns : goal.release-requires-clause-owns
release-requires-clause-owns g c d =
    let l = c.loop-kernel in
    let i = l.invariant in
    let a = i.apart c.requires.may.apart.0 c.requires.may.apart.1 c.requires.may.apart.2 in
    let n = i.made.len in let lt = c.loop-kernel-test.true in let e = c.len-kernel-end.ensures in
    (over_host l.self.frames l.self.pool (g.H.Host.bytes l.host) _ _ a.behind
    (is_at l.self.frames l.self.pool (g.H.Host.bytes l.host) l.self.present 0 l.kernel c.requires.may.apart.0 l.self.list.items d
    (omega (arith, n, lt, e)) (c.requires.may.apart.1 ∙ sym n) a.seated)).1

pub loop-kernel-init : goal.loop-kernel-init
loop-kernel-init g c = record {
  started = c.requires.started;
  retired = refl;
  passed = refl;
  frames = refl;
  present = refl;
  theirs = c.requires.may.theirs;
  count = c.requires.may.pool.1;
  apart = λ ks len h. h;
  stay = λ ks len h. stays_none c.args.self.now.frames
      (seats_from c.args.self.now.frames (g.H.Host.bytes c.args.host.now) c.args.self.now.present 0 ks c.args.self.now.list.items);
  size = refl;
  made = no_room_made c.args.self.now.present c.args.self.now.list.items;
  first = refl;
  done = λ j d less ne. absurd (omega (arith, less));
}

pub loop-kernel-preserved : goal.loop-kernel-preserved
loop-kernel-preserved g c = elim c.if-kernel-self.branch [
  | then-kernel-self w ↦
      let l = c.loop-kernel in
      let i = l.invariant in
      let r = w.release.ensures in
      let to = w.release.new.self in
      let host = g.H.Host.bytes l.host in
      let host' = g.H.Host.bytes w.release.new.host in
      let n = i.made.len in let lt = c.loop-kernel-test.true in let e = c.len-kernel-end.ensures in
      let known : l.kernel < length l.self.list.items = omega (arith, n, lt, e) in
      let d = any_of l.self.list.items l.kernel known in
      let x = r.list d in
      let room = ap (λ (m : List ℕ). length m) x.2.ram in
      let mine = i.theirs l.kernel d known in
      record {
        started = ap (λ (h : g.row.H.Denot). g.H.Host.is_started h) w.host-is ∙ r.started;
        retired = ap (λ (h : g.row.H.Denot). g.H.Host.retired h) w.host-is ∙ r.retired ∙ i.retired;
        passed = ap (λ (h : g.row.H.Denot). g.H.Host.passed h) w.host-is ∙ r.passed ∙ i.passed;
        frames = ap (λ (s : Tenants). s.frames) w.self-is ∙ r.rest.0 ∙ i.frames;
        present = ap (λ (s : Tenants). s.present) w.self-is ∙ r.rest.1 ∙ i.present;
        theirs =
            subst (λ (s : Tenants). All (λ (t : Tenant). 4096 * s.frames ≤ length t.ram) s.list.items) (sym w.self-is)
            (subst (λ (f : ℕ). All (λ (t : Tenant). 4096 * f ≤ length t.ram) to.list.items) (sym r.rest.0)
            (left_rooms l.self.frames l.kernel l.self.list.items to.list.items x.0 known x.1 (omega (arith, room, mine)) i.theirs));
        count = ap (λ (s : Tenants). count_of s.pool) w.self-is ∙ x.2.dropped.moves.same.1 ∙ i.count;
        apart = λ ks len h.
            subst (λ (s : Tenants). AreApart s.frames s.pool (g.H.Host.bytes c.if-kernel-self.host)
            (seats_from s.frames (g.H.Host.bytes c.if-kernel-self.host) s.present 0 ks s.list.items)) (sym w.self-is)
            (subst (λ (b : List ℕ). AreApart to.frames to.pool b (seats_from to.frames b to.present 0 ks to.list.items))
            (sym (ap (λ (h : g.row.H.Denot). g.H.Host.bytes h) w.host-is))
            (subst (λ (f : ℕ). AreApart f to.pool host' (seats_from f host' to.present 0 ks to.list.items)) (sym r.rest.0)
            (subst (λ (q : ℕ). AreApart l.self.frames to.pool host' (seats_from l.self.frames host' q 0 ks to.list.items)) (sym r.rest.1)
            (r.apart ks (len ∙ sym n) (i.apart ks len h)))));
        stay = λ ks len h.
            subst (λ (s : Tenants). EachStays c.args.self.now.frames
            (seats_from c.args.self.now.frames (g.H.Host.bytes c.args.host.now) c.args.self.now.present 0 ks c.args.self.now.list.items)
            (seats_from c.args.self.now.frames (g.H.Host.bytes c.if-kernel-self.host) c.args.self.now.present 0 ks s.list.items))
            (sym w.self-is)
            (subst (λ (b : List ℕ). EachStays c.args.self.now.frames
            (seats_from c.args.self.now.frames (g.H.Host.bytes c.args.host.now) c.args.self.now.present 0 ks c.args.self.now.list.items)
            (seats_from c.args.self.now.frames b c.args.self.now.present 0 ks to.list.items))
            (sym (ap (λ (h : g.row.H.Denot). g.H.Host.bytes h) w.host-is))
            (stays_then c.args.self.now.frames _ (seats_from c.args.self.now.frames host c.args.self.now.present 0 ks l.self.list.items) _
            (i.stay ks len h)
            (subst (λ (q : ℕ). EachStays c.args.self.now.frames (seats_from c.args.self.now.frames host q 0 ks l.self.list.items)
            (seats_from c.args.self.now.frames host' q 0 ks to.list.items)) i.present
            (subst (λ (f : ℕ). EachStays f (seats_from f host l.self.present 0 ks l.self.list.items)
            (seats_from f host' l.self.present 0 ks to.list.items)) i.frames
            (r.stay ks (len ∙ sym n) (i.apart ks len h))))));
        size = ap (λ (h : g.row.H.Denot). length (g.H.Host.bytes h)) w.host-is ∙ x.2.dropped.moves.size ∙ i.size;
        made =
            subst (λ (s : Tenants). HasMadeRoom c.args.self.now.present c.args.self.now.list.items s.list.items) (sym w.self-is)
            (record {
              len = ap length x.1 ∙ length-set l.self.list.items l.kernel x.0 ∙ n;
              stops = then_stops l.self.pool to.pool host host' c.args.self.now.present l.kernel c.args.self.now.list.items
                  l.self.list.items to.list.items d x.0 known x.1 x.2 ∙ i.made.stops;
              each =
                  λ j d. (let y = r.list d in then_each l.self.pool to.pool host host' c.args.self.now.present l.kernel
                  c.args.self.now.list.items l.self.list.items to.list.items d y.0 known y.1 y.2 i.made j);
              here = λ d.
                  (let y = r.list d in
                  then_other l.self.pool to.pool host host' c.args.self.now.present l.kernel c.args.self.now.list.items l.self.list.items
                  to.list.items d y.0 known y.1 y.2 c.args.self.now.present (λ z. w.if-kernel-self.true (sym z ∙ sym i.present))
                  ∙ i.made.here d);
            });
        first =
            subst (λ (s : Tenants). FirstGiveWay (l.kernel + 1) (stage c.args.self.now (g.H.Host.bytes c.args.host.now))
            (stage s (g.H.Host.bytes c.if-kernel-self.host))) (sym w.self-is)
            (subst (λ (b : List ℕ). FirstGiveWay (l.kernel + 1) (stage c.args.self.now (g.H.Host.bytes c.args.host.now)) (stage to b))
            (sym (ap (λ (h : g.row.H.Denot). g.H.Host.bytes h) w.host-is))
            (gives_next l.kernel (stage c.args.self.now (g.H.Host.bytes c.args.host.now)) (stage l.self host) (stage to host') i.first
            (record {
              present = r.rest.1;
              few = λ d. (let n0 = i.made.len in let there = c.requires.may.there in let same = i.present in let low = c.if-enough.false in
                  let all = frames_are l.self (g.H.Host.bytes l.host) d c.index.result.now c.free.result c.held.result
                  (omega (arith, n0, there, same)) (c.free.ensures.count (g.H.Host.bytes l.host))
                  (c.held.ensures ∙ ap (λ (t : Tenant). t.guest.held) c.index.ensures) in
                  omega (arith, all, low));
              here = λ e. absurd (w.if-kernel-self.true e);
              parked = λ ne. r.list;
            })));
        done = λ j d less ne.
            (let y = r.list d in
            subst (λ (s : Tenants). (get_or s.list.items j d).guest.held ≤ 2) (sym w.self-is)
            (then_held l.self.pool to.pool host host' c.args.self.now.present l.kernel c.args.self.now.list.items l.self.list.items
            to.list.items d y.0 known y.1 y.2 j (λ below. i.done j d below ne) less));
      }
  | else-kernel-self w ↦
      let l = c.loop-kernel in
      let i = l.invariant in
      record {
        started = ap (λ (h : g.row.H.Denot). g.H.Host.is_started h) w.host-is ∙ i.started;
        retired = ap (λ (h : g.row.H.Denot). g.H.Host.retired h) w.host-is ∙ i.retired;
        passed = ap (λ (h : g.row.H.Denot). g.H.Host.passed h) w.host-is ∙ i.passed;
        frames = ap (λ (s : Tenants). s.frames) w.self-is ∙ i.frames;
        present = ap (λ (s : Tenants). s.present) w.self-is ∙ i.present;
        theirs = subst (λ (s : Tenants). All (λ (t : Tenant). 4096 * s.frames ≤ length t.ram) s.list.items) (sym w.self-is) i.theirs;
        count = ap (λ (s : Tenants). count_of s.pool) w.self-is ∙ i.count;
        apart = λ ks len h.
            subst (λ (s : Tenants). AreApart s.frames s.pool (g.H.Host.bytes c.if-kernel-self.host)
            (seats_from s.frames (g.H.Host.bytes c.if-kernel-self.host) s.present 0 ks s.list.items)) (sym w.self-is)
            (subst (λ (b : List ℕ). AreApart l.self.frames l.self.pool b (seats_from l.self.frames b l.self.present 0 ks l.self.list.items))
            (sym (ap (λ (h : g.row.H.Denot). g.H.Host.bytes h) w.host-is)) (i.apart ks len h));
        stay = λ ks len h.
            subst (λ (s : Tenants). EachStays c.args.self.now.frames
            (seats_from c.args.self.now.frames (g.H.Host.bytes c.args.host.now) c.args.self.now.present 0 ks c.args.self.now.list.items)
            (seats_from c.args.self.now.frames (g.H.Host.bytes c.if-kernel-self.host) c.args.self.now.present 0 ks s.list.items))
            (sym w.self-is)
            (subst (λ (b : List ℕ). EachStays c.args.self.now.frames
            (seats_from c.args.self.now.frames (g.H.Host.bytes c.args.host.now) c.args.self.now.present 0 ks c.args.self.now.list.items)
            (seats_from c.args.self.now.frames b c.args.self.now.present 0 ks l.self.list.items))
            (sym (ap (λ (h : g.row.H.Denot). g.H.Host.bytes h) w.host-is)) (i.stay ks len h));
        size = ap (λ (h : g.row.H.Denot). length (g.H.Host.bytes h)) w.host-is ∙ i.size;
        made = subst (λ (s : Tenants). HasMadeRoom c.args.self.now.present c.args.self.now.list.items s.list.items) (sym w.self-is) i.made;
        first =
            subst (λ (s : Tenants). FirstGiveWay (l.kernel + 1) (stage c.args.self.now (g.H.Host.bytes c.args.host.now))
            (stage s (g.H.Host.bytes c.if-kernel-self.host))) (sym w.self-is)
            (subst (λ (b : List ℕ). FirstGiveWay (l.kernel + 1) (stage c.args.self.now (g.H.Host.bytes c.args.host.now)) (stage l.self b))
            (sym (ap (λ (h : g.row.H.Denot). g.H.Host.bytes h) w.host-is))
            (gives_next l.kernel (stage c.args.self.now (g.H.Host.bytes c.args.host.now)) (stage l.self (g.H.Host.bytes l.host))
            (stage l.self (g.H.Host.bytes l.host)) i.first
            (record {
              present = refl;
              few = λ d. (let n0 = i.made.len in let there = c.requires.may.there in let same = i.present in let low = c.if-enough.false in
                  let all = frames_are l.self (g.H.Host.bytes l.host) d c.index.result.now c.free.result c.held.result
                  (omega (arith, n0, there, same)) (c.free.ensures.count (g.H.Host.bytes l.host))
                  (c.held.ensures ∙ ap (λ (t : Tenant). t.guest.held) c.index.ensures) in
                  omega (arith, all, low));
              here = λ e. refl;
              parked = λ ne. absurd (ne w.if-kernel-self.false);
            })));
        done = λ j d less ne.
            subst (λ (s : Tenants). (get_or s.list.items j d).guest.held ≤ 2) (sym w.self-is)
            (i.done j d (let is = w.if-kernel-self.false in let same = i.present in omega (arith, less, ne, is, same)) ne);
      }
]

pub returns-clause-released : goal.returns-clause-released
returns-clause-released g c =
    let l = c.loop-kernel in
    let i = l.invariant in
    let a = i.apart c.requires.may.apart.0 c.requires.may.apart.1 c.requires.may.apart.2 in
    let n = i.made.len in let stop = c.loop-kernel-test.false in let e = c.len-kernel-end.ensures in let same = i.present in
    let four = c.requires.may.pool.0 in let count = i.count in let all = a.all in
    record {
      count = l.kernel;
      within = omega (arith, n, e);
      first = i.first;
      enough = λ d.
          (let b = held_bound l.self.frames l.self.pool (g.H.Host.bytes l.host) l.self.present 0 c.requires.may.apart.0 l.self.list.items d
          (get_or l.self.list.items l.self.present d).guest.held (c.requires.may.apart.1 ∙ sym n) a.seated
          (λ j m is lt ne. i.done j d (omega (arith, n, stop, e, lt)) (λ x. ne (omega (arith, is, x, same))))
          (λ j m is lt eq. (let z = ap (λ k. (get_or l.self.list.items k d).guest.held)
          (let t : j ≡ l.self.present = omega (arith, is, eq) in t) in omega (arith, z))) in
          let most = b.0 in
          omega (arith, most, n, four, count, all));
    }

pub returns-then-enough-clause-released : goal.returns-then-enough-clause-released
returns-then-enough-clause-released g c =
    let l = c.loop-kernel in
    let i = l.invariant in
    let n = i.made.len in let there =
    c.requires.may.there in let same = i.present in let lt = c.loop-kernel-test.true in let e = c.len-kernel-end.ensures in
    record {
      count = l.kernel;
      within = omega (arith, n, lt, e);
      first = i.first;
      enough = λ d.
          (let all = frames_are l.self (g.H.Host.bytes l.host) d c.index.result.now c.free.result c.held.result
          (omega (arith, n, there, same)) (c.free.ensures.count (g.H.Host.bytes l.host))
          (c.held.ensures ∙ ap (λ (t : Tenant). t.guest.held) c.index.ensures) in
          let high = c.if-enough.true in
          omega (arith, all, high));
    }
