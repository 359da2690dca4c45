use Rattle.std.proofs.Common.{◌≡◌, List, [], ℕ, ◌+◌, ◌*◌, ◌/◌, ◌%◌, length, take, ap, sym, subst, ◌∙◌, arith}
use Rattle.std.specs.FinMap.{empty}
use Rattle.frame_pool.specs.Pool.{free_list}
use Rattle.machine_model.specs.State as model
use Rattle.wedge_step.specs.Scene.{scene}
use Rattle.wedge_step.specs.Standing.{IsAble}
use Rattle.wedge_core.specs.Calls.{MayAdopt}
use Rattle.checkpoint.specs.Guests.{GoesOnFrom}
use Rattle.checkpoint.specs.Moved.{rested_from}
use Rattle.checkpoint.proofs.Seats.{text_fits, text_seated}
use Rattle.checkpoint.proofs.guest.guest_from.Goals as goal

pub adopt-requires-clause-may : goal.adopt-requires-clause-may
adopt-requires-clause-may g c =
    let image = c.args.image.now in
    let ram = c.args.state.ram in
    let n = c.len-frames.result / 4096 in
    let memory = c.seated-pool.new.memory in
    let pool = c.seated-pool.result in
    let count = c.len-frames.ensures.count in
    let least = c.requires.form.ram.0 in
    let most = c.requires.form.ram.1 in
    let whole = c.requires.form.ram.2 in
    let long : length ram ≡ 4096 * n = omega (arith, count, whole) in
    let size : length memory ≡ (n + 512) * 4096 = c.seated-pool.ensures.len in
    let base = c.seated-pool.ensures.base in
    let free = c.seated-pool.ensures.free in
    let may : MayAdopt image n pool memory = record {
      size = (omega (arith, long, least), omega (arith, long, most));
      room = omega (arith, size);
      whole = ap (λ (k : ℕ). k % 4096) size ∙ omega arith;
      fits = text_fits image ram c.len-frames.result least whole count c.requires.text;
      text = text_seated memory ram image.text n c.seated-pool.ensures.front least long c.requires.text;
      behind = omega (arith, base);
      stands = c.seated-pool.ensures.stands;
      free = omega (arith, free);
    } in
    subst (λ (l : List ℕ). MayAdopt image n pool l) (sym (g.met.H.Host.bytes_changed c.start.new.self memory)) may

pub returns-clause-goes_on : goal.returns-clause-goes_on
returns-clause-goes_on g c =
    let s = c.args.state in
    let image = c.args.image.now in
    let n = c.len-frames.result / 4096 in
    let memory = c.seated-pool.new.memory in
    let host = g.H.Host.bytes (g.H.Host.with_bytes c.start.new.self memory) in
    let a = c.in_ok-guest.ensures.adopts in
    let made : List ℕ → model.State = λ ram. record { cpu = s.cpu; ram = ram; set = empty; board = s.board; step = s.step } in
    let same : host ≡ memory = g.met.H.Host.bytes_changed c.start.new.self memory in
    let front : take (4096 * n) host ≡ s.ram = ap (take (4096 * n)) same ∙ c.seated-pool.ensures.front in
    let two = a.two in
    let kept = a.pool.lengths in
    let counted = a.held.counted in
    let free = ap (λ (l : List ℕ). length (free_list c.seated-pool.result l)) same ∙ c.seated-pool.ensures.free in
    let new = scene c.in_ok-guest.guest c.adopt.new.pool (g.H.Host.bytes c.adopt.new.host) in
    let goes : GoesOnFrom image n (rested_from s) new = record {
      held = a.held;
      ready = a.ready;
      state = λ script. a.state script ∙ ap made front;
      frames = a.held.frames_are;
      able = subst IsAble (sym (ap (λ (b : model.State). b.cpu) (a.state []))) c.requires.able;
      two = a.two;
      free = omega (arith, two, kept, counted, free);
      fills = a.fills;
      filled = a.filled;
    } in
    subst (λ (k : ℕ). GoesOnFrom image (k / 4096) (rested_from s) new) c.len-frames.ensures.count goes

pub returns-clause-started : goal.returns-clause-started
returns-clause-started g c = c.adopt.ensures.started

pub returns-clause-counts : goal.returns-clause-counts
returns-clause-counts g c =
    let memory = c.seated-pool.new.memory in
    let e = c.adopt.ensures.counts in
    record {
      retired = e.retired ∙ (g.met.H.Host.retired_stays c.start.new.self memory ∙ c.start.ensures.retired);
      passed = e.passed ∙ (g.met.H.Host.passed_stays c.start.new.self memory ∙ c.start.ensures.passed);
    }

pub returns-in_err-guest-clause-counts : goal.returns-in_err-guest-clause-counts
returns-in_err-guest-clause-counts g c =
    let memory = c.seated-pool.new.memory in
    let e = c.adopt.ensures.counts in
    record {
      retired = e.retired ∙ (g.met.H.Host.retired_stays c.start.new.self memory ∙ c.start.ensures.retired);
      passed = e.passed ∙ (g.met.H.Host.passed_stays c.start.new.self memory ∙ c.start.ensures.passed);
    }

pub returns-in_err-start-clause-counts : goal.returns-in_err-start-clause-counts
returns-in_err-start-clause-counts g c = record { retired = c.start.ensures.retired; passed = c.start.ensures.passed }
