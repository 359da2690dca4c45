use Rattle.std.proofs.Common.{ℕ, List, Bool, [], ◌∷◌, get_or, false, Some, sym, ap, ◌∙◌, subst}
use Rattle.std.proofs.lemmas.Grind.{merely}
use Rattle.frame_pool.specs.Held.{Owns, Moves}
use Rattle.shadow_cache.specs.OtherRoots.{other_roots_of}
use Rattle.shadow_cache.specs.declared.pair.Pair.{Pair}
use Rattle.shadow_cache.proofs.Beside.{no-reads}
use Rattle.shadow_cache.proofs.Noting.{alone-frames, fresh-roots}
use Rattle.shadow_cache.proofs.CallSteps.{agree-start}
use Rattle.shadow_cache.proofs.Openings.{start-has_tables_under}
use Rattle.shadow_cache.proofs.Listing.{fresh-barred}
use Rattle.shadow_cache.proofs.roots.Roots.new.Goals as goal

pub returns-clause-stands : goal.returns-clause-stands
returns-clause-stands c =
    let e = c.new-present.ensures in
    merely (record {
      roots = fresh-roots c.new-present.result c.in_ok-others.others c.new-present.new.ram c.in_ok-others.ensures e.empty e.tables;
      barred = fresh-barred (λ frame. get_or c.full-barred.result frame false) c.new-present.result c.in_ok-others.others
          c.new-present.new.ram c.in_ok-others.ensures e.empty;
    })

pub returns-clause-owns : goal.returns-clause-owns
returns-clause-owns c = subst (Owns c.new-present.new.pool c.new-present.new.ram)
    (sym (alone-frames c.new-present.result c.in_ok-others.others c.new-present.new.ram c.in_ok-others.ensures)) c.new-present.ensures.owns

pub returns-clause-moves : goal.returns-clause-moves
returns-clause-moves c =
    subst (Moves c.args.pool.now c.new-present.new.pool c.args.ram.now c.new-present.new.ram [])
    (sym (alone-frames c.new-present.result c.in_ok-others.others c.new-present.new.ram c.in_ok-others.ensures)) c.new-present.ensures.moves

pub returns-clause-starts : goal.returns-clause-starts
returns-clause-starts c =
    let e = c.new-present.ensures in
    record {
      pair = c.new-present.result;
      alone = ap (λ (ps : List Pair). c.new-present.result ∷ ps) c.in_ok-others.ensures;
      fresh = record { value = e.cr3; empty = e.empty; tables = e.tables; unmarked = e.stale };
    }

pub returns-clause-told : goal.returns-clause-told
returns-clause-told c =
    let s = returns-clause-starts c in
    agree-start c.args.cr3 s.pair (c.new-present.result ∷ c.in_ok-others.others) c.new-present.new.ram s.alone s.fresh

pub returns-clause-begins : goal.returns-clause-begins
returns-clause-begins c =
    let e = c.new-present.ensures in
    (ap (λ (v : ℕ). Some v) e.cr3, e.stale, λ f. ap (λ (bits : List Bool). get_or bits f false) e.tables ∙ no-reads f)

pub returns-clause-alone : goal.returns-clause-alone
returns-clause-alone c = ap (λ (ps : List Pair). other_roots_of ps c.new-present.new.ram) c.in_ok-others.ensures

pub returns-clause-has_tables_under : goal.returns-clause-has_tables_under
returns-clause-has_tables_under c = λ indices. start-has_tables_under indices c.new-present.result c.in_ok-others.others
    c.new-present.new.ram c.in_ok-others.ensures c.new-present.ensures.empty
