-- From what was reported to the outside to what the program's status means.
use Rattle.std.proofs.Common.{◌≡◌, inl, inr, ℕ, ◌≤◌, Bool, List, [], ◌++◌, Option, Some, None, refl, sym, ap, subst, ◌∙◌, arith}
use Rattle.pv_io.specs.Files.{FileMap, Stores}
use Rattle.pv_io.specs.Sink.{Appends}
use Rattle.pv_io.specs.declared.files.Files as disk
use Rattle.pv_io.specs.declared.sink.Sink as sink
use Rattle.pv_io.proofs.Pieces.{appends_none, rose_later}
use Rattle.host_cpl3.specs.declared.host.Host as hosts
use Rattle.wedge_core.specs.Slices as host
use Rattle.pv_build.specs.Readings.{OnlyRead}
use Rattle.pv_build.specs.Telling.{HaltsAs, Says, Whole, Cut, Ends}
use Rattle.pv_build.specs.declared.halt.Halt.{Halt}
use Rattle.pv_build.specs.declared.halt.Halt.TheVariants as halt
use Rattle.pv_build.specs.declared.status.Status.{Status}
use Rattle.pv_build.specs.declared.status.Status.TheVariants as status
use Rattle.pv_tasks.specs.Outside.{Outside, outside}
use Rattle.pv_tasks.specs.Beside.{beside}
use Rattle.pv_tasks.specs.Unread.{NotRead}
use Rattle.pv_tasks.specs.Outcome.{Outcome, refused, stored_as}
use Rattle.pv_tasks.specs.Delivery.{Delivers, Stored, NotStored, NoMemory}
use Rattle.pv_tasks.specs.Tasks.{Task, Means, FaultCounts, IsStored, HostDoes, TakesFirst, NoStore, NoPut}
use Rattle.pv_tasks.proofs.Works.{IsEnd, IsTold}

-- ---- what is printed

-- nothing is printed first
pub all_of : (w : Outcome) (old new : Option (List ℕ)) → w.first ≡ [] → Appends old new w.text → Appends old new (w.first ++ w.text)
all_of w old new none h = subst (λ (f : List ℕ). Appends old new (f ++ w.text)) (sym none) h

pub none_first : (w : Outcome) (taken : Option (List ℕ)) → w.first ≡ [] → Appends taken taken w.first
none_first w taken none = subst (λ (f : List ℕ). Appends taken taken f) (sym none) (appends_none taken)

pub prints : (task : Task) (o : Outside) (w : Outcome) (st : Status) → w.status ≡ st → IsEnd st
    → task.gives o.before.files w → IsStored w.stored o.before.files o.after.files
    → Appends o.before.taken o.after.taken (w.first ++ w.text) → HostDoes w o → Means task o st
prints task o w status.Done is end gives stored appends does = (w, gives, (sym is, stored, appends, does))
prints task o w status.Stopped is end gives stored appends does = (w, gives, (sym is, stored, appends, does))
prints task o w status.Refused is end gives stored appends does = (w, gives, (sym is, stored, appends, does))
prints task o w status.Words is end gives stored appends does = absurd end
prints task o w status.ReadFault is end gives stored appends does = absurd end
prints task o w status.WriteFault is end gives stored appends does = absurd end
prints task o w status.Memory is end gives stored appends does = absurd end

-- an outcome whose text was printed, before which nothing is printed
pub says : (task : Task) (o : Outside) (w : Outcome) (st : Status) → IsEnd w.status → w.first ≡ []
    → task.gives o.before.files w → IsStored w.stored o.before.files o.after.files → (st ≡ w.status → HostDoes w o)
    → Says w.text w.status o.before.taken o.after.taken o.before.puts o.after.puts st → Means task o st
says task o w st end none gives stored does (Whole is appends kept) =
    subst (λ (s : Status). Means task o s) (sym is)
    (prints task o w w.status refl end gives stored (all_of w o.before.taken o.after.taken none appends) (does is))
says task o w st end none gives stored does (Cut is front rose) =
    subst (λ (s : Status). Means task o s) (sym is)
    (inl (w, gives, NoPut o.before.taken stored (none_first w o.before.taken none) front rose))

-- so where that text is all
pub says_told : (task : Task) (o : Outside) (w : Outcome) (st : Status) → IsEnd w.status → IsTold w → task.gives o.before.files w
    → o.after.files ≡ o.before.files
    → (st ≡ w.status → HostDoes w o) → Says w.text w.status o.before.taken o.after.taken o.before.puts o.after.puts st → Means task o st
says_told task o w st end is gives same does said =
    says task o w st end (ap (λ (v : Outcome). v.first) is) gives
    (subst (λ (x : Option (List ℕ × List ℕ)). IsStored x o.before.files o.after.files) (sym (ap (λ (v : Outcome). v.stored) is)) same) does
    said

-- work that ended with nothing stored
pub halts : (told : List ℕ → Type 0) (held : Type 0) (task : Task) (o : Outside) (st : Status) (h : Halt)
    → ((line : List ℕ) → told line → task.gives o.before.files (refused line)) → (task.finds o.before.files → held)
    → o.after.files ≡ o.before.files
    → o.after.completed ≡ o.before.completed → HaltsAs told held o.before.sure o.before.loads o.after.loads h
    → Ends h o.before.taken o.after.taken o.before.puts o.after.puts st → Means task o st
halts told held task o st (halt.Refused line) gives needs same none is ends =
    says task o (refused line) st tt refl (gives line is) same (λ end. none) ends
halts told held task o st halt.ReadFault gives needs same none is ends =
    subst (λ (s : Status). Means task o s) (sym ends.0) (is.0, same, ends.1, (λ sure all. is.1 sure (needs all)), none)
halts told held task o st halt.Memory gives needs same none is ends =
    subst (λ (s : Status). Means task o s) (sym ends.0) (same, inl (ends.1, none))

-- ---- what was made

delivers : (task : Task) (o : Outside) (name bytes line : List ℕ) (st : Status)
    → (o.after.taken ≡ o.before.taken → TakesFirst task.runs_first o.before.taken o.after.taken [])
    → task.gives o.before.files (stored_as name bytes line) → o.after.completed ≡ o.before.completed
    → Delivers name bytes line status.Done o st → Means task o st
delivers task o name bytes line st takes gives none (Stored stores said) =
    says task o (stored_as name bytes line) st tt refl gives stores (λ end. none) said
delivers task o name bytes line st takes gives none (NotStored is changes rose unsure same) =
    subst (λ (s : Status). Means task o s) (sym is)
    (inl (stored_as name bytes line, gives, NoStore name bytes refl changes rose unsure (takes same)))
delivers task o name bytes line st takes gives none (NoMemory is same put) =
    subst (λ (s : Status). Means task o s) (sym is) (same, inl (put, none))

-- where fewer loads had failed before; what is half done says nothing of loads
pub since_loads : (task : Task) (o : Outside) (loads : ℕ) (st : Status)
    → (task.half_done o → task.half_done (record o { before = record (o.before) { loads = loads } }))
    → loads ≤ o.before.loads → Means task o st
    → Means task (record o { before = record (o.before) { loads = loads } }) st
since_loads task o loads status.Done half le h = h
since_loads task o loads status.Stopped half le h = h
since_loads task o loads status.Refused half le h = h
since_loads task o loads status.ReadFault half le h = (rose_later loads o.before.loads o.after.loads le h.0, h.1, h.2, h.3, h.4)
since_loads task o loads status.WriteFault half le (inl (w, gives, NoStore name bytes is changes rose unsure same)) =
    inl (w, gives, NoStore name bytes is changes rose unsure same)
since_loads task o loads status.WriteFault half le (inl (w, gives, NoPut mid stored first front rose)) =
    inl (w, gives, NoPut mid stored first front rose)
since_loads task o loads status.WriteFault half le (inr h) =
    inr (record { text = h.text; begins = h.begins; same = h.same; front = h.front; rose = h.rose })
since_loads task o loads status.Memory half le (same, inl h) = (same, inl h)
since_loads task o loads status.Memory half le (same, inr h) = (same, inr (half h))
since_loads task o loads status.Words half le h = absurd h

-- over the files as they were before they were read
pub since_read : (task : Task) (o : Outside) (files : Option FileMap) (sure : Bool) (loads stores : ℕ) (st : Status)
    → (task.half_done o → task.half_done (record o { before = record (o.before) { loads = loads } })) → o.before.files ≡ files
    → o.before.sure ≡ sure → o.before.stores ≡ stores → loads ≤ o.before.loads
    → Means task o st → Means task (record o { before = record (o.before) { files = files; sure = sure; stores = stores; loads = loads } })
    st
since_read task o files sure loads stores st half same_files same_sure same_stores le h =
    let first = since_loads task o loads st half le h in
    let over_files = subst (λ (f : Option FileMap). Means task (record o { before = record (o.before) { files = f; loads = loads } }) st)
    same_files first in
    let over_sure = subst (λ (b : Bool). Means task (record o { before = record (o.before) { files = files; sure = b; loads = loads } }) st)
    same_sure over_files in
    subst (λ (n : ℕ). Means task (record o { before = record (o.before) { files = files; sure = sure; stores = n; loads = loads } }) st)
    same_stores over_sure

-- so of what was made and is delivered
pub delivered : (task : Task) (o : Outside) (files : Option FileMap) (sure : Bool) (loads stores : ℕ)
    (name bytes line : List ℕ) (st : Status)
    → (task.half_done o → task.half_done (record o { before = record (o.before) { loads = loads } })) → o.before.files ≡ files
    → o.before.sure ≡ sure → o.before.stores ≡ stores → loads ≤ o.before.loads
    → (o.after.taken ≡ o.before.taken → TakesFirst task.runs_first o.before.taken o.after.taken [])
    → task.gives files (stored_as name bytes line) → o.after.completed ≡ o.before.completed
    → Delivers name bytes line status.Done o st
    → Means task (record o { before = record (o.before) { files = files; sure = sure; stores = stores; loads = loads } }) st
delivered task o files sure loads stores name bytes line st half same_files same_sure same_stores le takes gives none done =
    since_read task o files sure loads stores st half same_files same_sure same_stores le
    (delivers task o name bytes line st takes
    (subst (λ (f : Option FileMap). task.gives f (stored_as name bytes line)) (sym same_files) gives) none done)

-- ---- the counts

pub some_is_none : (name : List ℕ) → Some name ≡ None → ⊥
some_is_none name is = cc

-- of work that stored nothing
pub counts_read : {F S : Type 0} (f : disk.Ghosts F) (s : sink.Ghosts S) (task : Task) (a b : F) (out out2 : S)
    (completed : host.Counts) (memory : List ℕ)
    → OnlyRead f (task.finds (f.held a)) a b → FaultCounts task (beside f s (a, b) (out, out2) completed memory)
counts_read f s task a b out out2 completed memory read = record {
  same_sure = read.same_sure;
  loads = read.later;
  stores = omega (arith, read.same_stores);
  no_store = λ none. read.same_stores;
  sure_loads = read.no_fault;
  sure_stores = λ sure. read.same_stores;
}

-- the same beside a host
pub counts_host : {F S H : Type 0} (f : disk.Ghosts F) (s : sink.Ghosts S) (h : hosts.Ghosts H) (task : Task) (a b : F)
    (out out2 : S) (host host2 : H)
    → OnlyRead f (task.finds (f.held a)) a b → FaultCounts task (outside f s h (a, b) (out, out2) (host, host2))
counts_host f s h task a b out out2 host host2 read = record {
  same_sure = read.same_sure;
  loads = read.later;
  stores = omega (arith, read.same_stores);
  no_store = λ none. read.same_stores;
  sure_loads = read.no_fault;
  sure_stores = λ sure. read.same_stores;
}

-- of work that stored
pub counts_stored : {F S : Type 0} (f : disk.Ghosts F) (s : sink.Ghosts S) (task : Task) (a b c : F) (out out2 : S)
    (completed : host.Counts) (memory : List ℕ)
    → (task.saved ≡ None → ⊥)
    → OnlyRead f (task.finds (f.held a)) a b → NotRead f b c → FaultCounts task (beside f s (a, c) (out, out2) completed memory)
counts_stored f s task a b c out out2 completed memory saves read stored = record {
  same_sure = stored.same_sure ∙ read.same_sure;
  loads = omega (arith, read.later, stored.same_loads);
  stores = omega (arith, read.same_stores, stored.later);
  no_store = λ none. absurd (saves none);
  sure_loads = λ sure finds. stored.same_loads ∙ read.no_fault sure finds;
  sure_stores = λ sure. stored.no_fault (read.same_sure ∙ sure) ∙ read.same_stores;
}

-- the same beside a host
pub counts_behind : {F S H : Type 0} (f : disk.Ghosts F) (s : sink.Ghosts S) (h : hosts.Ghosts H) (task : Task) (a b c : F)
    (out out2 : S) (host host2 : H)
    → (task.saved ≡ None → ⊥)
    → OnlyRead f (task.finds (f.held a)) a b → NotRead f b c → FaultCounts task (outside f s h (a, c) (out, out2) (host, host2))
counts_behind f s h task a b c out out2 host host2 saves read stored = record {
  same_sure = stored.same_sure ∙ read.same_sure;
  loads = omega (arith, read.later, stored.same_loads);
  stores = omega (arith, read.same_stores, stored.later);
  no_store = λ none. absurd (saves none);
  sure_loads = λ sure finds. stored.same_loads ∙ read.no_fault sure finds;
  sure_stores = λ sure. stored.no_fault (read.same_sure ∙ sure) ∙ read.same_stores;
}

-- ---- what is left where the work is done

pub stored_done : (o : Outside) (name bytes line : List ℕ) (st : Status) → Delivers name bytes line status.Done o st → st ≡ status.Done
    → Stores o.before.files o.after.files name bytes
stored_done o name bytes line st (Stored stores said) done = stores
stored_done o name bytes line st (NotStored is changes rose unsure none) done = cc
stored_done o name bytes line st (NoMemory is kept none) done = cc

pub not_said : (line : List ℕ) (taken taken2 : Option (List ℕ)) (puts puts2 : ℕ) (st : Status)
    → Says line status.Refused taken taken2 puts puts2 st → st ≡ status.Done → ⊥
not_said line taken taken2 puts puts2 st (Whole is appends kept) done = cc
not_said line taken taken2 puts puts2 st (Cut is front rose) done = cc

-- work that has ended with nothing stored isn't done
pub not_ended : (h : Halt) (taken taken2 : Option (List ℕ)) (puts puts2 : ℕ) (st : Status) → Ends h taken taken2 puts puts2 st
    → st ≡ status.Done → ⊥
not_ended (halt.Refused line) taken taken2 puts puts2 st is done = not_said line taken taken2 puts puts2 st is done
not_ended halt.ReadFault taken taken2 puts puts2 st is done = cc (is.0, done)
not_ended halt.Memory taken taken2 puts puts2 st is done = cc (is.0, done)
