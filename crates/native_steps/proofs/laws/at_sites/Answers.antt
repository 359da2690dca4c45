-- A site has five bytes at least in the text, as sites lie apart there.
use Rattle.std.proofs.Common.{◌-◌, length, arith}
use Rattle.image_check.proofs.Laid.{apart_bounds}
use Rattle.native_steps.proofs.SiteJumps.{jumps}
use Rattle.native_steps.proofs.laws.at_sites.Goals as goal

pub returns : goal.returns
returns c = λ m memory v b w stands lends kernel site above there first done after_memory e.
    let h = w.accepted in
    let listed = ((c.places.ensures.site m.image h (b.cpu.regs.eip - 0x10000000) site).0 there).0 in
    let bounds = apart_bounds 0 m.image.sites (length m.image.text) (c.inside_sites.ensures.apart m.image h) site listed in
    let five = bounds.1 in
    let fits = bounds.2 in
    let window = c.jumps_out.ensures.window m.image h site listed in
    jumps m w memory v b stands lends kernel site.at (omega (arith, above, first)) (record {
      fits = omega (arith, five, fits);
      jump = c.jumps_out.ensures.jump m.image h site listed 5 (omega arith);
      cut = c.jumps_out.ensures.jump_cut m.image h site listed;
      leads = c.jumps_out.ensures.leads m.image h site listed;
      low = window.0;
      high = window.1;
    }) done after_memory e
