use Rattle.std.proofs.Common.{◌≡◌, ℕ, ◌-◌, ◌∙◌, sym, ap, rules}
use Rattle.ia32_decode.specs.declared.answer.Decoded.TheVariants as begins
use Rattle.ia32_decode.specs.Decoding.{decoded}
use Rattle.ia32_decode.specs.Front.{front_len, longest}
use Rattle.ia32_decode.proofs.Fronts.{spelled_by}
use Rattle.step_mem.specs.Pages.{bytes_from}
use Rattle.machine_model.specs.Instruction.{fetched_on, next_page}
use Rattle.machine_step.proofs.Fetched.{second_denied, second_read, second_owned, joined}
use Rattle.machine_step.proofs.fetch.fetch_on.Goals as goal

pub returns-in-Insn-clause-spelled : goal.returns-in-Insn-clause-spelled
returns-in-Insn-clause-spelled g c = spelled_by _ (begins.Insn c.in-Insn.insn c.in-Insn.len) c.in-Insn.ensures.insn

pub returns-in_err-fetch_page-clause-fetched : goal.returns-in_err-fetch_page-clause-fetched
returns-in_err-fetch_page-clause-fetched g c =
    let s = g.M.GuestMem.space c.args.mem.now in
    let t = g.M.GuestMem.space c.own_front.new.self in
    let u = g.M.GuestMem.space c.fetch_page.new.mem in
    let front = bytes_from s c.args.at c.front_len-front.result in
    rw (ap (λ (n : ℕ). fetched_on c.args.user c.args.at (bytes_from s c.args.at n) s) (sym c.front_len-front.ensures.len)
    ∙ second_denied c.args.user c.args.at c.front_len-front.result front _ s t u c.front_len-front.ensures.len c.own_front.ensures.owns
    (rw c.requires.next at c.in_err-fetch_page.ensures.fetching)) (search rules)

pub returns-in-Insn-clause-fetched : goal.returns-in-Insn-clause-fetched
returns-in-Insn-clause-fetched g c =
    let s = g.M.GuestMem.space c.args.mem.now in
    let t = g.M.GuestMem.space c.own_front.new.self in
    let u = g.M.GuestMem.space c.fetch_page.new.mem in
    let front = bytes_from s c.args.at c.front_len-front.result in
    let more = bytes_from u (next_page c.args.at) longest in
    let whole = joined front more c.read_page.new.to.items c.read_page-2.new.to.items c.as_slice.result.now
    (rw c.new-bytes.ensures at c.read_page.ensures.bytes) (rw c.requires.next at c.read_page-2.ensures.bytes) c.as_slice.ensures.value in
    let v = g.M.GuestMem.space c.own_back.new.self in
    let rest : c.saturating_sub-back.result ≡ c.in-Insn.len - front_len c.args.at =
    rw (c.from.ensures, c.front_len-front.ensures.len) at c.saturating_sub-back.ensures in
    ap (λ (n : ℕ). fetched_on c.args.user c.args.at (bytes_from s c.args.at n) s) (sym c.front_len-front.ensures.len)
    ∙ (second_read c.args.user c.args.at c.front_len-front.result front more (begins.Insn c.in-Insn.insn c.in-Insn.len) s t u
    c.front_len-front.ensures.len c.own_front.ensures.owns (rw c.requires.next at c.in_ok-fetch_page.ensures.fetching)
    (c.in-Insn.ensures.exact ∙ ap decoded whole)
    ∙ second_owned c.args.at c.in-Insn.insn c.in-Insn.len c.saturating_sub-back.result u v rest
    (rw c.requires.next at c.own_back.ensures.owns))

pub returns-in-Outside-clause-fetched : goal.returns-in-Outside-clause-fetched
returns-in-Outside-clause-fetched g c =
    let s = g.M.GuestMem.space c.args.mem.now in
    let t = g.M.GuestMem.space c.own_front.new.self in
    let u = g.M.GuestMem.space c.fetch_page.new.mem in
    let front = bytes_from s c.args.at c.front_len-front.result in
    let more = bytes_from u (next_page c.args.at) longest in
    let whole = joined front more c.read_page.new.to.items c.read_page-2.new.to.items c.as_slice.result.now
    (rw c.new-bytes.ensures at c.read_page.ensures.bytes) (rw c.requires.next at c.read_page-2.ensures.bytes) c.as_slice.ensures.value in
    ap (λ (n : ℕ). fetched_on c.args.user c.args.at (bytes_from s c.args.at n) s) (sym c.front_len-front.ensures.len)
    ∙ (second_read c.args.user c.args.at c.front_len-front.result front more begins.Outside s t u c.front_len-front.ensures.len
    c.own_front.ensures.owns (rw c.requires.next at c.in_ok-fetch_page.ensures.fetching) (c.in-Outside.ensures.exact ∙ ap decoded whole))

pub returns-in-Short-clause-fetched : goal.returns-in-Short-clause-fetched
returns-in-Short-clause-fetched g c =
    let s = g.M.GuestMem.space c.args.mem.now in
    let t = g.M.GuestMem.space c.own_front.new.self in
    let u = g.M.GuestMem.space c.fetch_page.new.mem in
    let front = bytes_from s c.args.at c.front_len-front.result in
    let more = bytes_from u (next_page c.args.at) longest in
    let whole = joined front more c.read_page.new.to.items c.read_page-2.new.to.items c.as_slice.result.now
    (rw c.new-bytes.ensures at c.read_page.ensures.bytes) (rw c.requires.next at c.read_page-2.ensures.bytes) c.as_slice.ensures.value in
    ap (λ (n : ℕ). fetched_on c.args.user c.args.at (bytes_from s c.args.at n) s) (sym c.front_len-front.ensures.len)
    ∙ (second_read c.args.user c.args.at c.front_len-front.result front more begins.Short s t u c.front_len-front.ensures.len
    c.own_front.ensures.owns (rw c.requires.next at c.in_ok-fetch_page.ensures.fetching) (c.in-Short.ensures.exact ∙ ap decoded whole))
