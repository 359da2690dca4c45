use Rattle.std.proofs.Common.{◌∙◌, Ok, ap, sym, rules}
use Rattle.ia32_decode.specs.declared.answer.Decoded.TheVariants as begins
use Rattle.step_mem.specs.Pages.{bytes_from}
use Rattle.machine_step.proofs.Fetched.{first_denied, first_read, first_owned}
use Rattle.machine_step.proofs.fetch.fetch_pages.Goals as goal

pub returns-in_err-fetch_page-clause-fetched : goal.returns-in_err-fetch_page-clause-fetched
returns-in_err-fetch_page-clause-fetched g c =
    let s = g.M.GuestMem.space c.args.mem.now in
    let t = g.M.GuestMem.space c.fetch_page.new.mem in
    rw (first_denied c.args.user c.args.at c.front_len-front.result _ s t c.front_len-front.ensures.len
    c.in_err-fetch_page.ensures.fetching) (search rules)

pub returns-in-Insn-clause-fetched : goal.returns-in-Insn-clause-fetched
returns-in-Insn-clause-fetched g c =
    let s = g.M.GuestMem.space c.args.mem.now in
    let t = g.M.GuestMem.space c.fetch_page.new.mem in
    let u = g.M.GuestMem.space c.own_front.new.self in
    let front = bytes_from t c.args.at c.front_len-front.result in
    let insn = c.in-Insn.field-0 in
    first_read c.args.user c.args.at c.front_len-front.result front (begins.Insn insn c.in-Insn.len) s t
    c.front_len-front.ensures.len c.in_ok-fetch_page.ensures.fetching (sym c.in-Insn.is ∙ c.decode_page.ensures.exact)
    ∙ first_owned c.args.user c.args.at front insn c.in-Insn.len c.from.result t u c.from.ensures c.own_front.ensures.owns

pub returns-in-Outside-clause-fetched : goal.returns-in-Outside-clause-fetched
returns-in-Outside-clause-fetched g c =
    let s = g.M.GuestMem.space c.args.mem.now in
    let t = g.M.GuestMem.space c.fetch_page.new.mem in
    first_read c.args.user c.args.at c.front_len-front.result (bytes_from t c.args.at c.front_len-front.result) begins.Outside s t
    c.front_len-front.ensures.len c.in_ok-fetch_page.ensures.fetching (sym c.in-Outside.is ∙ c.decode_page.ensures.exact)
    ∙ ap (λ d. Ok (d, t)) (sym c.in-Outside.is)
