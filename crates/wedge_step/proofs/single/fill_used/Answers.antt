use Rattle.std.proofs.Common.{◌==◌, refl, sym, ap, subst, arith}
use Rattle.frame_pool.proofs.Held.{Moves-refl}
use Rattle.shadow_tables.specs.Entries.{entries_of}
use Rattle.shadow_tables.specs.Sight.{sight}
use Rattle.shadow_tables.specs.declared.words.Side.{Side}
use Rattle.wedge_mem.specs.Owned.{first, owns}
use Rattle.wedge_step.specs.AtRest.{IsAtRest}
use Rattle.wedge_step.specs.Stand.{FillsIn, stand}
use Rattle.wedge_step.specs.Standing.{side_of}
use Rattle.wedge_step.proofs.AtRest.{all_closes, none_filled, none_told, rest_settled}
use Rattle.wedge_step.proofs.Filling.{fills_same}
use Rattle.wedge_step.proofs.Resettling.{closed_ready}
use Rattle.wedge_step.proofs.single.fill_used.Given.{Over}
use Rattle.wedge_step.proofs.single.fill_used.Goals as goal

pub is_settled-requires : goal.is_settled-requires
is_settled-requires g c = record { stands = first c.requires.under.sound.stands_now }

pub returns-then-is_settled : goal.returns-then-is_settled
returns-then-is_settled g c =
    let running = c.args.running.now in
    let shadows = running.shadows in
    let memory = c.args.ram.now in
    let state = c.args.state.now in
    let side = side_of (running.cpu.cpl == 3) in
    let slots = g.S.Shadows.slots shadows memory in
    let sound = c.requires.under.sound in
    let rest : IsAtRest slots side state = subst (λ (s : Side). IsAtRest slots s state) c.side_of.ensures
    (c.is_settled.ensures c.if-is_settled.true) in
    record {
      moved = record {
        stands = first sound.stands_now;
        owns = owns sound.stands_now;
        moves = Moves-refl _ _ _ (owns sound.stands_now).stands;
      };
      left = sym (ap (Rattle.step_mem.specs.Changes.changed (entries_of slots)) rest.unchanged);
      shows = λ image is h. h;
      whole = λ may. (
        refl,
        all_closes slots side state rest (g.S.Shadows.write_protected shadows)
            (λ page slot small e. g.met.S.Shadows.barred shadows memory page slot (first sound.stands_now) small e),
      );
      ready = λ out m cpu frames h. closed_ready g.S.Shadows out m cpu shadows shadows memory memory _ state.tables state.wrote
          (Rattle.std.specs.Prelude.Some 0) (rest_settled slots side state rest g.S.Shadows shadows memory refl) refl h;
      opens = λ image wp h. h;
      told = record { same_cr3 = refl; tells = λ after. none_told slots side state rest (sight g.S.Shadows shadows memory) };
      has_tables_under = λ indices all o. o;
      counts = record {
        counted = c.requires.under.counted;
        fills = omega arith;
        exact = (0, omega arith, none_filled slots side state rest);
        filled = fills_same _ _ running.fills refl;
      };
      same = record { before = refl; reloaded = refl; same = refl };
    }

pub settle_used-requires : goal.settle_used-requires
settle_used-requires g c = record { under = c.requires.under; fills = c.requires.fills }

pub returns : goal.returns
returns g c =
    let e = c.settle_used.ensures in
    record {
      moved = e.moved;
      left = e.left;
      shows = e.shows;
      whole = e.whole;
      ready = λ out m cpu frames h. e.ready out m cpu frames h;
      opens = λ image wp h. e.opens image wp h;
      told = e.told;
      has_tables_under = λ indices all o. e.has_tables_under indices all o;
      counts = e.counts;
      same = e.same;
    }
