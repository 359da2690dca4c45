use Rattle.std.proofs.Common.{◌*◌, ◌≤◌, drop, arith}
use Rattle.image_load.specs.Boot.{boot_ram, need, text_pages, data_pages}
use Rattle.image_load.proofs.Fronts.{Laid, laid_boot, front_of, rest_of}
use Rattle.image_load.proofs.load.Goals as goal

laid : (c : goal.After-cpu_at) → Laid (c.args.frames * 4096) c.put-3.new.self (boot_ram c.args.image.now c.args.frames)
    (drop (c.args.frames * 4096) c.args.ram.now)
laid c =
    let image = c.args.image.now in
    let text : text_pages image ≤ 4096 = omega (arith, c.text.ensures.within.text) in
    let rest : data_pages image ≤ 8192 = omega (arith, c.text.ensures.within.room) in
    let fits : need image ≤ c.args.frames = rw (
      c.pages-text_pages.ensures,
      c.pages-data_pages.ensures,
      c.text.ensures.text,
      c.init.ensures,
      c.bss.ensures,
    ) at c.if-frames-need.false in
    rw (
      c.put-3.ensures.memory,
      c.put-2.ensures.memory,
      c.tables.ensures.words,
      c.directory.ensures.words,
      c.put.ensures.memory,
      c.pages-text_pages.ensures,
      c.pages-data_pages.ensures,
      c.text.ensures.text,
      c.text-2.ensures.text,
      c.init.ensures,
      c.init-2.ensures,
      c.bss.ensures,
    )
    (laid_boot image c.args.frames c.args.ram.now c.requires.zero c.requires.room c.requires.frames.0 c.requires.frames.1 text rest fits)

pub returns-clause-front : goal.returns-clause-front
returns-clause-front c = front_of _ _ _ _ (laid c)

pub returns-clause-rest : goal.returns-clause-rest
returns-clause-rest c = rest_of _ _ _ _ (laid c)
