-- The uses that a look at the next instruction collects, and the search for a clash among them.
use Rattle.std.proofs.Common.{◌≡◌, ℕ, ◌+◌, ◌*◌, ◌/◌, ◌%◌, ◌==◌, ◌≤◌, ◌<◌, List, [], ◌∷◌, ◌++◌, length, drop, get_or, add-one, Bool, true, false, ◌&&◌, ◌||◌, Option, Some, refl, sym, ap, ◌∙◌, arith}
use Rattle.std.proofs.lemmas.List.{append-nil, at_drop_more, at_drop_all, get_or-map, length-map, length-take, map-append}
use Rattle.std.specs.FinMap.{get}
use Rattle.guest_ram.specs.Among.{is_among}
use Rattle.board.specs.Scripts.{Events}
use Rattle.descriptors.specs.declared.cpu.Cpu.{Cpu}
use Rattle.descriptors.specs.Access.{by_level}
use Rattle.descriptors.specs.Controls.{wp_of}
use Rattle.guest_ram.specs.Bytes.{part}
use Rattle.image_check.specs.Image.{Image}
use Rattle.ia32_types.specs.declared.insn.Insn.{Insn}
use Rattle.ia32_decode.specs.declared.answer.Decoded.{Decoded}
use Rattle.ia32_decode.specs.declared.answer.Decoded.TheVariants as begins
use Rattle.ia32_decode.specs.Decoding.{decoded}
use Rattle.ia32_decode.specs.Front.{longest}
use Rattle.paging.specs.declared.entry.Access.{Access}
use Rattle.paging.specs.declared.entry.Entry.{Entry}
use Rattle.machine_model.specs.State.{State, wedge}
use Rattle.machine_model.specs.Run.{Set}
use Rattle.machine_model.specs.Instruction.{next_page}
use Rattle.machine_model.specs.Clash.{Use, clash_behind, clash_in, fetch_uses, instruction_clashes, is_refused_by, range_uses, uses_at}
use Rattle.native_steps.specs.Looking.{Seen, bytes_seen, marked, uses_on, uses_seen}
use Rattle.wedge_step.specs.declared.clash.PageUse.{PageUse}
use Rattle.wedge_step.specs.Clashing.{before, looked, model_use, model_uses}
use Rattle.wedge_step.specs.Standing.{ground}

abbrev none : PageUse
none = record { page = 0; write = false }

module _ (entries : ℕ → Option Entry) (wp user : Bool) where
  -- a clash at the use at an index or at a later one
  abbrev pub behind : List PageUse → ℕ → Bool
  behind uses i = clash_behind entries wp (before uses i) (drop i (model_uses user uses))

  -- a clash at this use
  abbrev pub hits : List ℕ → PageUse → Bool
  hits used u = is_among u.page used && is_refused_by (entries u.page) (record { write = u.write; user = user }) wp

  pub hits_or_behind : (uses : List PageUse) (i : ℕ) → i < length uses
      → behind uses i ≡ (hits (before uses i) (get_or uses i none) || behind uses (i + 1))
  hits_or_behind uses i lt =
      let all = model_uses user uses in
      let u = get_or uses i none in
      let in_all : i < length all = rw length-map lt in
      let is : get_or all i (model_use user none) ≡ model_use user u =
      get_or-map (λ (p : PageUse). model_use user p) uses i none (model_use user none) lt in
      at_drop_more (clash_behind entries wp (before uses i)) all i (model_use user none) in_all
      ∙ (ap (λ v. clash_behind entries wp (before uses i) (v ∷ drop (i + 1) all)) is
      ∙ ap (λ l. hits (before uses i) u || clash_behind entries wp l (drop (i + 1) all)) (sym (ap (before uses) (add-one i))))

  pub none_behind : (uses : List PageUse) (i : ℕ) → length uses ≤ i → behind uses i ≡ false
  none_behind uses i le =
      let past : length (model_uses user uses) ≤ i = rw length-map le in
      at_drop_all (clash_behind entries wp (before uses i)) (model_uses user uses) i past

  -- the answer at this use, by an access and a protection that were found
  judged : (u : PageUse) (access : Access) (w : Bool) → access ≡ record { write = u.write; user = user } → w ≡ wp
      → is_refused_by (entries u.page) access w ≡ is_refused_by (entries u.page) (record { write = u.write; user = user }) wp
  judged u access w a p =
      ap (λ x. is_refused_by (entries u.page) x w) a
      ∙ ap (λ b. is_refused_by (entries u.page) (record { write = u.write; user = user }) b) p

  pub clash_found : (uses : List PageUse) (i : ℕ) (all : Bool) (access : Access) (w : Bool) → i < length uses → all ≡ behind uses i
      → access ≡ record { write = (get_or uses i none).write; user = user } → w ≡ wp
      → is_among (get_or uses i none).page (before uses i) ≡ true → is_refused_by (entries (get_or uses i none).page) access w ≡ true
      → true ≡ all
  clash_found uses i all access w lt is a p used refused =
      let u = get_or uses i none in
      sym (is ∙ (hits_or_behind uses i lt
      ∙ (ap (λ b. (b && is_refused_by (entries u.page) (record { write = u.write; user = user }) wp) || behind uses (i + 1)) used
      ∙ ap (λ b. b || behind uses (i + 1)) (sym (judged u access w a p) ∙ refused))))

  pub unused_passed : (uses : List PageUse) (i : ℕ) (all : Bool) → i < length uses → all ≡ behind uses i
      → is_among (get_or uses i none).page (before uses i) ≡ false → all ≡ behind uses (i + 1)
  unused_passed uses i all lt is used =
      let u = get_or uses i none in
      is ∙ (hits_or_behind uses i lt
      ∙ ap (λ b. (b && is_refused_by (entries u.page) (record { write = u.write; user = user }) wp) || behind uses (i + 1)) used)

  pub allowed_passed : (uses : List PageUse) (i : ℕ) (all : Bool) (access : Access) (w : Bool) → i < length uses → all ≡ behind uses i
      → access ≡ record { write = (get_or uses i none).write; user = user } → w ≡ wp
      → is_among (get_or uses i none).page (before uses i) ≡ true → is_refused_by (entries (get_or uses i none).page) access w ≡ false
      → all ≡ behind uses (i + 1)
  allowed_passed uses i all access w lt is a p used refused =
      let u = get_or uses i none in
      is ∙ (hits_or_behind uses i lt
      ∙ (ap (λ b. (b && is_refused_by (entries u.page) (record { write = u.write; user = user }) wp) || behind uses (i + 1)) used
      ∙ ap (λ b. b || behind uses (i + 1)) (sym (judged u access w a p) ∙ refused)))

few_of : (m : List ℕ) (a n k : ℕ) → n ≤ k → length (part m a n) ≤ k
unfolding part
few_of m a n k le = let e = length-take n (drop a m) in omega (arith, e, le)

-- so many bytes at most
pub bytes_few : (m : List ℕ) (a n k : ℕ) (xs bytes : List ℕ) → xs ≡ [] → bytes ≡ xs ++ part m a n → n ≤ k → length bytes ≤ k
bytes_few m a n k xs bytes none e le =
    let few = few_of m a n k le in
    let is : length bytes ≡ length (part m a n) = ap length (e ∙ ap (λ l. l ++ part m a n) none) in
    omega (arith, few, is)

-- the two pages of a fetch
two_pages : (b : State) (old new : List PageUse) (page : ℕ) → page ≡ b.cpu.regs.eip / 4096 + 1
    → model_uses (b.cpu.cpl == 3) old ≡ record { page = b.cpu.regs.eip / 4096; access = by_level b.cpu false } ∷ [] → new ≡ old
    ++ record { page = page; write = false } ∷ []
    → model_uses (b.cpu.cpl == 3) new ≡ fetch_uses b (b.cpu.regs.eip / 4096 ∷ next_page b.cpu.regs.eip / 4096 ∷ [])
two_pages b old new page is one push =
    let user : Bool = b.cpu.cpl == 3 in
    let at : page ≡ next_page b.cpu.regs.eip / 4096 = omega (arith, is) in
    ap (model_uses user) push
    ∙ (map-append (λ (u : PageUse). model_use user u) old (record { page = page; write = false } ∷ [])
    ∙ (ap (λ l. l ++ model_use user (record { page = page; write = false }) ∷ []) one
    ∙ ap (λ n. fetch_uses b (b.cpu.regs.eip / 4096 ∷ n ∷ [])) at))

-- the bytes of the next page
next_bytes : (ram front bytes : List ℕ) (x : Seen) (eip page : ℕ) → page ≡ eip / 4096 + 1 → bytes ≡ front
    ++ part (marked ram x.marks) (4096 * x.frame + page * 4096 % 4096) 11
    → bytes ≡ front ++ bytes_seen (marked ram x.marks) x (next_page eip) longest
next_bytes ram front bytes x eip page is e =
    let same : page * 4096 % 4096 ≡ next_page eip % 4096 = omega (arith, is) in
    e ∙ ap (λ n. front ++ part (marked ram x.marks) (4096 * x.frame + n) 11) same

-- Bytes that begin no instruction use nothing more.
no_ranges : (b : State) (d : Decoded) → ((insn : Insn) (len : ℕ) → d ≡ begins.Insn insn len → ⊥) → range_uses b d ≡ []
no_ranges b (begins.Insn insn len) h = absurd (h insn len refl)
no_ranges b begins.Short h = refl
no_ranges b begins.Outside h = refl

pub no_ranges_more : (b : State) (d : Decoded) (uses : List Use) → ((insn : Insn) (len : ℕ) → d ≡ begins.Insn insn len → ⊥)
    → uses ≡ uses ++ range_uses b d
no_ranges_more b d uses h = sym (append-nil uses) ∙ ap (λ l. uses ++ l) (sym (no_ranges b d h))

-- what is collected where the next page was reached
pub on_next : (o : Option Seen) (b : State) (ram front bytes : List ℕ) (x : Seen) (old new : List PageUse) (page : ℕ) (d : Decoded)
    (all : List Use) → page ≡ b.cpu.regs.eip / 4096 + 1
    → model_uses (b.cpu.cpl == 3) old ≡ record { page = b.cpu.regs.eip / 4096; access = by_level b.cpu false } ∷ [] → new ≡ old
    ++ record { page = page; write = false } ∷ []
    → Some x ≡ o → bytes ≡ front ++ part (marked ram x.marks) (4096 * x.frame + page * 4096 % 4096) 11
    → d ≡ decoded bytes → all ≡ model_uses (b.cpu.cpl == 3) new ++ range_uses b d
    → all ≡ uses_on b ram front o
on_next o b ram front bytes x old new page d all is one push found read decodes more =
    let user : Bool = b.cpu.cpl == 3 in
    let pages : List Use = fetch_uses b (b.cpu.regs.eip / 4096 ∷ next_page b.cpu.regs.eip / 4096 ∷ []) in
    more
    ∙ (ap (λ l. l ++ range_uses b d) (two_pages b old new page is one push)
    ∙ (ap (λ e. pages ++ range_uses b e) decodes
    ∙ (ap (λ l. pages ++ range_uses b (decoded l)) (next_bytes ram front bytes x b.cpu.regs.eip page is read)
    ∙ ap (uses_on b ram front) found)))

-- A state is looked at by its processor, memory and set alone.
looked_alike : (image : Image) (script : Events) (frames : ℕ) (b : State) (cpu : Cpu) (ram : List ℕ) (set : Set) → b.cpu ≡ cpu
    → b.ram ≡ ram → b.set ≡ set
    → clash_in (get set) (wp_of cpu) (uses_seen (ground image frames) (looked cpu ram set)) ≡ clash_in (get b.set) (wp_of b.cpu)
    (uses_seen (wedge image script frames) b)
looked_alike image script frames b cpu ram set c r s =
    ap (λ (x : Cpu). clash_in (get set) (wp_of x) (uses_seen (ground image frames) (looked x ram set))) (sym c)
    ∙ (ap (λ (x : List ℕ). clash_in (get set) (wp_of b.cpu) (uses_seen (ground image frames) (looked b.cpu x set))) (sym r)
    ∙ ap (λ (x : Set). clash_in (get x) (wp_of b.cpu) (uses_seen (ground image frames) (looked b.cpu b.ram x))) (sym s))

-- Where the pages that are looked at are those of the step, the answer is that of the step.
pub as_the_step : (image : Image) (script : Events) (frames : ℕ) (b : State) (cpu : Cpu) (ram : List ℕ) (set : Set) (result : Bool)
    (uses list : List PageUse)
    → result ≡ clash_in (get set) (wp_of cpu) (model_uses (cpu.cpl == 3) uses) → uses ≡ list
    → model_uses (cpu.cpl == 3) list ≡ uses_seen (ground image frames) (looked cpu ram set)
    → b.cpu ≡ cpu → b.ram ≡ ram → b.set ≡ set → uses_at (wedge image script frames) b ≡ uses_seen (wedge image script frames) b
    → result ≡ instruction_clashes (wedge image script frames) b
unfolding instruction_clashes
as_the_step image script frames b cpu ram set result uses list is same looks c r s all =
    is
    ∙ (ap (λ l. clash_in (get set) (wp_of cpu) (model_uses (cpu.cpl == 3) l)) same
    ∙ (ap (clash_in (get set) (wp_of cpu)) looks
    ∙ (looked_alike image script frames b cpu ram set c r s ∙ ap (clash_in (get b.set) (wp_of b.cpu)) (sym all))))

-- And where a look finds a clash, so does the law of looks.
pub as_it_looks : (image : Image) (script : Events) (frames : ℕ) (b : State) (cpu : Cpu) (ram : List ℕ) (set : Set) (result : Bool)
    (uses list : List PageUse)
    → result ≡ clash_in (get set) (wp_of cpu) (model_uses (cpu.cpl == 3) uses) → uses ≡ list
    → model_uses (cpu.cpl == 3) list ≡ uses_seen (ground image frames) (looked cpu ram set)
    → b.cpu ≡ cpu → b.ram ≡ ram → b.set ≡ set → result ≡ true
    → clash_in (get b.set) (wp_of b.cpu) (uses_seen (wedge image script frames) b) ≡ true
as_it_looks image script frames b cpu ram set result uses list is same looks c r s found =
    sym (looked_alike image script frames b cpu ram set c r s)
    ∙ (ap (clash_in (get set) (wp_of cpu)) (sym looks)
    ∙ (ap (λ l. clash_in (get set) (wp_of cpu) (model_uses (cpu.cpl == 3) l)) (sym same)
    ∙ (sym is ∙ found)))
