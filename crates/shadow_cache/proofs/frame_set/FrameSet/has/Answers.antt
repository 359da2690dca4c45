use Rattle.std.proofs.Common.{rules, ◌≡◌, ◌≤◌, ◌*◌, ◌/◌, ◌%◌, ◌+◌, ◌^◌, length, get_or, nat_eq, false, sym, ap, ◌∙◌, arith}
use Rattle.std.proofs.lemmas.List.{get_or_past}
use Rattle.shadow_cache.specs.FrameSets.{spread}
use Rattle.shadow_cache.proofs.Spread.{length-spread, spread-get}
use Rattle.shadow_cache.proofs.frame_set.FrameSet.has.Goals as goal

pub returns-in-Some-clause-is : goal.returns-in-Some-clause-is
returns-in-Some-clause-is c =
    let ws = c.self.inside.words in let f = c.args.frame in
    let e : 64 * (f / 64) + f % 64 ≡ f = omega arith in
    let there : c.in-Some.word.now ≡ get_or ws (f / 64) 0 = search rules in
    ap (λ w. nat_eq (w / 2 ^ (f % 64) % 2) 1) there
    ∙ sym (spread-get ws (f / 64) (f % 64) (omega arith)) ∙ ap (λ k. get_or (spread ws) k false) e
    ∙ ap (λ s. get_or s f false) c.self.view_is

pub returns-in-None-clause-is : goal.returns-in-None-clause-is
returns-in-None-clause-is c =
    let ws = c.self.inside.words in let f = c.args.frame in
    let past : length ws ≤ f / 64 = search rules in
    let size = length-spread ws in
    sym (get_or_past (spread ws) f false (omega (arith, size, past))) ∙ ap (λ s. get_or s f false) c.self.view_is
