-- What is kept may be used again after the accesses of a step that went, and of one of which nothing more is done.
use Rattle.std.proofs.Common.{◌≡◌, ◌⊎◌, ℕ, ◌+◌, ◌^◌, ◌<◌, ◌≤◌, ◌==◌, List, map, Bool, true, false, cond, not, Some, None, refl, sym, ap, ◌∙◌, inl, inr, arith}
use Rattle.std.proofs.lemmas.Bool.Decides.{eqb_tells}
use Rattle.std.specs.Option.{ForSome}
use Rattle.std.specs.FinMap.{get}
use Rattle.board.specs.declared.devices.Board.{Board}
use Rattle.image_check.specs.Image.{Image}
use Rattle.paging.specs.declared.entry.Entry.{Entry}
use Rattle.paging.specs.Space.{Space}
use Rattle.shadow_tables.specs.OtherRoot.{AreSame}
use Rattle.shadow_tables.specs.Entries.{entries_of}
use Rattle.shadow_tables.specs.Slots.{entry_in}
use Rattle.shadow_tables.specs.declared.shadows.Shadows as shadows
use Rattle.step_mem.specs.Changes.{changed, page_of}
use Rattle.step_mem.specs.declared.changes.Change.{Change}
use Rattle.step_mem.proofs.Changed.{get_with_other}
use Rattle.machine_step.specs.declared.worked.Dropped.{Dropped}
use Rattle.machine_step.specs.declared.worked.Dropped.TheVariants as dropped
use Rattle.machine_step.specs.declared.worked.Worked.{Worked}
use Rattle.machine_step.specs.Worked.{dropping, went_as, whats, completed_by}
use Rattle.machine_model.specs.Following.{StepsFollow}
use Rattle.machine_model.specs.Reloading.{Follows}
use Rattle.machine_model.specs.Run.{Set}
use Rattle.machine_model.specs.State.{Setting, State, space_at_start}
use Rattle.machine_model.specs.Step.{Report, stepped, step_of}
use Rattle.machine_model.proofs.TrackedSteps.{retained}
use Rattle.native_steps.specs.Mirrors.{IsWedge, IsHost, shown}
use Rattle.native_steps.proofs.Shown.{shown_length}
use Rattle.wedge_mem.specs.Settled.{pages_of}
use Rattle.wedge_mem.proofs.Filled.{not-second}
use Rattle.wedge_step.specs.Ready.{IsReady, IsReadyBehind, leaving, is_all}
use Rattle.wedge_step.specs.Standing.{ground}
use Rattle.wedge_step.proofs.Behind.{IsStep, behind_ready}
use Rattle.wedge_step.proofs.Bools.{clash}
use Rattle.wedge_step.proofs.AmongPages.{changed_other}
use Rattle.wedge_step.proofs.Boards.{none_given}

-- ---- entries that a step leaves as they were

stays : (d : Dropped) (set : Set) (pages : List ℕ) (q : ℕ) → is_all d ≡ false → leaving d pages q ≡ false
    → get (dropping d set) q ≡ get set q
stays dropped.Nothing set pages q a h = refl
stays (dropped.Page page) set pages q a h =
    get_with_other set page None q (λ e. elim (eqb_tells q page) [ inl t ↦ clash (q == page) t.0 h | inr n ↦ n.1 e ])
stays (dropped.Dir index) set pages q a h = retained set index q ∙ ap (λ (b : Bool). cond (not b) (get set q) None) h
stays dropped.All set pages q a h = absurd (clash true refl a)

-- an entry that it left, but for those that leave, was there or was left by its accesses
kept_or_left : (d : Dropped) (base : Set) (visited : List ℕ) (cs : List Change) (first last : Set) → ((q : ℕ) → get base q ≡ get first q)
    → ((q : ℕ) → ForSome (get (dropping d (changed base cs)) q) (λ e. get last q ≡ Some e))
    → (page : ℕ) → leaving d (pages_of visited cs) page ≡ false → (e : Entry) → get (changed base cs) page ≡ Some e
    → (get first page ≡ Some e) ⊎ (get last page ≡ Some e)
kept_or_left dropped.All base visited cs first last same left page out e is =
    inl (sym (changed_other base cs page (not-second page visited (map page_of cs) out) ∙ same page) ∙ is)
kept_or_left dropped.Nothing base visited cs first last same left page out e is = inr (left page e is)
kept_or_left (dropped.Page gone) base visited cs first last same left page out e is =
    inr (left page e (stays (dropped.Page gone) (changed base cs) (pages_of visited cs) page refl out ∙ is))
kept_or_left (dropped.Dir index) base visited cs first last same left page out e is =
    inr (left page e (stays (dropped.Dir index) (changed base cs) (pages_of visited cs) page refl out ∙ is))

-- ---- a step

ground_step : (image : Image) (n : ℕ) (b : State) → step_of (ground image n) b b.set ≡ stepped (ground image n) b
unfolding step_of
ground_step image n b = ap (λ (d : Board). stepped (ground image n) (record b { board = d })) (none_given b.board b.step)

module _ {S : Type 0} (shows : shadows.Ghosts S) where
  -- what a guest's memory and shadows are before a step and after its accesses
  pub record Steps (image : Image) (n : ℕ) (b : State) (s : S) (memory then : List ℕ) : Type 0 where
    pub wedge : IsWedge (ground image n)
    pub host : IsHost (ground image n) memory
    pub small : n ≤ 16384
    pub ram : b.ram ≡ shown (ground image n) memory
    pub set : b.set ≡ entries_of (shows.slots s memory)
    pub at : (page : ℕ) → page < 2 ^ 20 → get (entries_of (shows.slots s memory)) page ≡ entry_in (shows.slots s memory page)
    pub entries : entries_of (shows.slots s then) ≡ entries_of (shows.slots s memory)
    pub same : AreSame (shows.other_roots s memory) (shows.other_roots s then)

  module _ (image : Image) (n : ℕ) (b : State) (s : S) (memory then : List ℕ) (k : Steps image n b s memory then)
      (h : IsReady shows (ground image n) b.cpu s memory) where
    abbrev m : Setting
    m = ground image n

    abbrev first : Space
    first = space_at_start m.mode m.frames b.cpu b.ram b.set

    step_from : (last : Space) → Follows first last → last.ram ≡ shown m then → IsStep shows m b.cpu s memory then first last
    step_from last follows ram = record {
      follows = follows;
      ram = k.ram;
      then_ram = ram;
      frames = refl;
      cr3 = refl;
      pse = refl;
      room = (let e = shown_length m k.wedge memory k.host in omega (arith, e));
      small = k.small;
      untold = refl;
      kept = λ page lt. ap (λ (set : Set). get set page) k.set ∙ k.at page lt;
      same = k.same;
    }

    -- that went
    pub went_ready : StepsFollow → (worked : Worked) (board : Board) (t : Space) (changes : List Change)
        → stepped m b ≡ went_as b worked board t → t.ram ≡ shown m then → t.set ≡ changed (entries_of (shows.slots s then)) changes
        → IsReadyBehind shows (leaving worked.dropped (pages_of t.visited changes)) m b.cpu s
        then (changed (entries_of (shows.slots s then)) changes) t.tables t.wrote
    went_ready steps worked board t changes e ram set_is =
        let report : Report = record {
          items = Rattle.machine_model.specs.Step.items_at b.step (whats worked.seen);
          completed = completed_by worked.completed;
          pages = t.visited;
          tables = t.tables;
          wrote = t.wrote;
        } in
        let after : State = record {
          cpu = worked.cpu;
          ram = t.ram;
          set = dropping worked.dropped t.set;
          board = Rattle.board.specs.Boards.board_step board;
          step = b.step + 1;
        } in
        let left = steps m b b.set report after (ground_step image n b ∙ e) in
        behind_ready shows m b.cpu s memory then first left.last (step_from left.last left.follows (sym left.ram ∙ ram)) t.tables t.wrote
        (sym left.tables) (sym left.wrote) h
        (leaving worked.dropped (pages_of t.visited changes)) (changed (entries_of (shows.slots s then)) changes)
        (λ page lt out x is. kept_or_left worked.dropped (entries_of (shows.slots s then)) t.visited changes b.set left.last.set
        (λ q. ap (λ (set : Set). get set q) (k.entries ∙ sym k.set))
        (λ q y there. left.set q y (ap (λ (set : Set). get (dropping worked.dropped set) q) set_is ∙ there)) page out x is)

    -- of which nothing more is done
    pub followed_ready : (out : ℕ → Bool) (t : Space) (set : Set) → Follows first t → t.ram ≡ shown m then → t.set ≡ set
        → IsReadyBehind shows out m b.cpu s then set t.tables t.wrote
    followed_ready out t set follows ram set_is =
        behind_ready shows m b.cpu s memory then first t (step_from t follows ram) t.tables t.wrote refl refl h out set
        (λ page lt free x is. inr (ap (λ (y : Set). get y page) set_is ∙ is))
