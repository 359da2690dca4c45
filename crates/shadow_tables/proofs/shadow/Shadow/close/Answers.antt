use Rattle.std.proofs.Common.{ℕ, ◌≤◌, List, [], ◌∷◌, ap, sym, subst, arith}
use Rattle.frame_pool.specs.Pool.{IsOut}
use Rattle.frame_pool.specs.Held.{times, Owns, Moves}
use Rattle.frame_pool.proofs.Lengths.{hit-self, times-cons}
use Rattle.frame_pool.proofs.Held.{Owns-moves, Moves-give, Moves-trans}
use Rattle.shadow_tables.specs.Slots.{held}
use Rattle.shadow_tables.proofs.shadow.Shadow.close.Goals as goal
use Rattle.shadow_tables.proofs.shadow.Shadow.close.Goals.{After-drop_all}

first-in : (f : ℕ) (fs : List ℕ) → 1 ≤ times f (f ∷ fs)
first-in f fs = let c = times-cons f f fs in let h = hit-self f in omega (arith, c, h)

pub give-requires-clause-out : goal.give-requires-clause-out
give-requires-clause-out c =
    let s = c.args.self in let e = c.drop_all.ensures in
    let o : Owns c.drop_all.new.pool c.drop_all.new.ram (s.kernel ∷ s.user ∷ []) =
    subst (Owns c.drop_all.new.pool c.drop_all.new.ram) e.empty.frames e.owns in
    subst (IsOut c.drop_all.new.pool c.drop_all.new.ram) (sym (ap (λ x. x.kernel) e.same))
    (o.out s.kernel (first-in s.kernel (s.user ∷ [])))

pub give-requires-2-clause-out : goal.give-requires-2-clause-out
give-requires-2-clause-out c =
    let s = c.args.self in let e = c.drop_all.ensures in let g = c.give.ensures in
    let o : Owns c.drop_all.new.pool c.drop_all.new.ram (s.kernel ∷ s.user ∷ []) =
    subst (Owns c.drop_all.new.pool c.drop_all.new.ram) e.empty.frames e.owns in
    let same = e.same in
    let v = Moves-give c.drop_all.new.pool c.give.new.self c.drop_all.new.ram c.give.new.ram (s.user ∷ []) s.kernel (rw same at g.list)
    g.stands g.frames (rw same at g.memory) in
    let p = Owns-moves c.drop_all.new.pool c.give.new.self c.drop_all.new.ram c.give.new.ram (s.kernel ∷ s.user ∷ []) (s.user ∷ []) o v in
    subst (IsOut c.give.new.self c.give.new.ram) (sym (ap (λ x. x.user) same)) (p.out s.user (first-in s.user []))

pub returns : goal.returns
returns c =
    let s = c.args.self in let e = c.drop_all.ensures in let g = c.give.ensures in let h = c.give-2.ensures in
    let same = e.same in
    let a : Moves c.args.pool.now c.drop_all.new.pool c.args.ram.now c.drop_all.new.ram (held s c.args.ram.now) (s.kernel ∷ s.user ∷ []) =
    subst (Moves c.args.pool.now c.drop_all.new.pool c.args.ram.now c.drop_all.new.ram (held s c.args.ram.now)) e.empty.frames e.moves
    in
    let v = Moves-give c.drop_all.new.pool c.give.new.self c.drop_all.new.ram c.give.new.ram (s.user ∷ []) s.kernel (rw same at g.list)
    g.stands g.frames (rw same at g.memory) in
    let w = Moves-give c.give.new.self c.give-2.new.self c.give.new.ram c.give-2.new.ram [] s.user (rw same at h.list) h.stands h.frames
    (rw same at h.memory) in
    record {
      moves = Moves-trans c.args.pool.now c.drop_all.new.pool c.give-2.new.self c.args.ram.now c.drop_all.new.ram c.give-2.new.ram
          (held s c.args.ram.now) (s.kernel ∷ s.user ∷ []) [] a
          (Moves-trans c.drop_all.new.pool c.give.new.self c.give-2.new.self c.drop_all.new.ram c.give.new.ram c.give-2.new.ram
          (s.kernel ∷ s.user ∷ []) (s.user ∷ []) [] v w);
    }
