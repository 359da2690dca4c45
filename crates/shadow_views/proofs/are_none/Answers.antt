use Rattle.std.proofs.Common.{◌≡◌, ◌∙◌, ap}
use Rattle.std.specs.Int.{w64, from_le_bytes}
use Rattle.guest_ram.specs.Bytes.{part}
use Rattle.shadow_views.proofs.Nones.{is-zero, none-at, none-makes, zero-is}
use Rattle.shadow_views.proofs.are_none.Goals as goal

pub returns : goal.returns
returns c =
    let m = c.args.ram.now in
    let made = from_le_bytes w64 (part m c.args.at 8) in
    let same : c.from_le_bytes.result ≡ made = c.from_le_bytes.ensures ∙ ap (from_le_bytes w64) c.part-p.ensures.bytes in
    record {
      none = (
        λ t. none-at m c.args.at (is-zero made c.from_le_bytes.result same t),
        λ h. zero-is made c.from_le_bytes.result same (none-makes m c.args.at h),
      );
    }
