use Rattle.std.proofs.Common.{rules, ◌≡◌, ◌<◌, ◌*◌, ◌/◌, ◌%◌, ◌+◌, ◌-◌, ◌^◌, length, get_or, set, nat_eq, false, bit_and, w64, ap, ◌∙◌, arith}
use Rattle.std.proofs.lemmas.Nat.Bits.{bit_at_clear_same, bit_at_clear_other}
use Rattle.shadow_cache.specs.FrameSets.{spread}
use Rattle.shadow_cache.proofs.Spread.{one-changed}
use Rattle.shadow_cache.proofs.frame_set.FrameSet.remove.Goals as goal

pub returns : goal.returns
returns c =
    let ws = c.self.inside.words in let f = c.args.frame in let v = get_or ws (f / 64) 0 in
    let size : length ws ≡ 256 = search rules in let most : f < 16384 = c.requires in
    let e : 64 * (f / 64) + f % 64 ≡ f = omega arith in
    one-changed ws (f / 64) (f % 64) (bit_and v (18446744073709551615 - 1 * 2 ^ (f % 64) % 2 ^ 64)) false
    (omega (arith, size, most)) (omega arith)
    (ap (λ b. nat_eq b 1) (bit_at_clear_same w64 v (f % 64) (omega arith))) (λ i l n. bit_at_clear_other w64 v (f % 64) (omega arith) i l n)
    ∙ ap (λ k. set (spread ws) k false) e ∙ ap (λ s. set s f false) c.self.view_is
