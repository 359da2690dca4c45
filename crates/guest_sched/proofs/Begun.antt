-- A kernel's memory as it starts stands at the front of the host's, and its shadows are made.
use Rattle.std.proofs.Common.{◌≡◌, ℕ, ◌*◌, ◌≤◌, List, [], ◌++◌, length, take, drop, refl, ap, sym, subst, ◌∙◌, arith}
use Rattle.std.specs.FinMap.{empty}
use Rattle.board.specs.Scripts.{Events}
use Rattle.board.specs.Boards.{at_reset}
use Rattle.board.specs.declared.devices.Board.{Board}
use Rattle.descriptors.specs.declared.cpu.Cpu.{Cpu}
use Rattle.frame_pool.specs.declared.Pool.{Pool}
use Rattle.guest_ram.specs.Bytes.{part, with_part}
use Rattle.image_load.specs.Boot.{need, boot_cpu, boot_ram}
use Rattle.machine_model.specs.State.{State, wedge}
use Rattle.shadow_cache.specs.Views as roots
use Rattle.wedge_core.specs.OfRoots.{of_roots}
use Rattle.wedge_step.specs.Filled.{WereFilled, pages_kept}
use Rattle.wedge_step.specs.Pools.{Keeps}
use Rattle.wedge_step.specs.Ready.{IsReady}
use Rattle.wedge_step.specs.Standing.{IsHeld, IsAble, ground, state_of}
use Rattle.wedge_core.specs.declared.guest.Guest.{Guest}
use Rattle.wedge_core.proofs.Booted.{begun_is, text_stands}
use Rattle.guest_sched.specs.Apart.{IsSeated}
use Rattle.guest_sched.specs.Admitting.{HasBegun, first_seat}
use Rattle.guest_sched.specs.declared.kernel.Kernel.{Kernel}
use Rattle.guest_sched.proofs.Fronts.{front_put, front_front, behind_front}

module _ (kernel : Kernel) (frames : ℕ) (ram host between : List ℕ) (fits : need kernel.image ≤ frames)
    (front : take (frames * 4096) ram ≡ boot_ram kernel.image frames) (len : frames * 4096 ≤ length ram)
    (is : between ≡ with_part host 0 (part ram 0 (4096 * frames)))
  where
    room : 4096 * frames ≤ length ram
    room = omega (arith, len)

    comes : between ≡ take (4096 * frames) ram ++ drop (4096 * frames) host
    comes = is ∙ front_put (4096 * frames) host ram room

    pub behind : drop (4096 * frames) between ≡ drop (4096 * frames) host
    behind = ap (drop (4096 * frames)) comes ∙ behind_front (4096 * frames) ram (drop (4096 * frames) host) room

    pub front_there : take (4096 * frames) between ≡ boot_ram kernel.image frames
    front_there =
        let e : 4096 * frames ≡ frames * 4096 = omega arith in
        ap (take (4096 * frames)) comes ∙ front_front (4096 * frames) ram (drop (4096 * frames) host) room
        ∙ ap (λ (k : ℕ). take k ram) e ∙ front

    pub text_there : part between 0x100000 (length kernel.image.text) ≡ kernel.image.text
    text_there = text_stands kernel.image frames between fits front_there

    module _ (p p' : Pool) (host' : List ℕ) (guest : Guest) (cpu : Cpu) (board : Board) (size : length between ≡ length host)
        (cpu_is : cpu ≡ boot_cpu kernel.image frames) (board_is : board ≡ at_reset) (able : IsAble (boot_cpu kernel.image frames))
        (held : IsHeld of_roots (ground kernel.image frames) guest p' host')
        (state : (script : Events) → state_of of_roots (wedge kernel.image script frames) guest host'
        ≡ record { cpu = cpu; ram = take (4096 * frames) between; set = empty; board = board; step = 0 })
        (two : guest.held ≡ 2) (fills : guest.fills ≡ 0)
        (ready : IsReady of_roots (ground kernel.image frames) guest.cpu guest.shadows host')
        (filled : WereFilled (pages_kept of_roots guest.shadows host') guest.fills)
        (keeps : Keeps p p' between host' [] (roots.frames guest.shadows host')) (low : 4096 * frames ≤ length host)
      where
        able_still : IsAble guest.cpu
        able_still = subst IsAble (sym (ap (λ (b : State). b.cpu) (state []) ∙ cpu_is)) able

        seated : IsSeated frames p' (first_seat kernel guest host')
        seated = record {
          holds = record {
            frames_are = held.frames_are;
            room = (let a = keeps.size in omega (arith, a, size, low));
            stand = held.stand;
            owns = held.owns;
            counted = held.counted;
          };
          goes_on = λ live. record { held = held; ready = ready; able = able_still; filled = filled };
        }

        pub begun : HasBegun kernel frames p p' host host' guest
        begun = record {
          seated = seated;
          start = record {
            state = state kernel.script.list ∙ begun_is cpu (boot_cpu kernel.image frames) (take (4096 * frames) between)
                (boot_ram kernel.image frames) board at_reset cpu_is front_there board_is;
            fills = fills;
            live = refl;
          };
          two = (let c = held.counted in omega (arith, c, two));
          between = between;
          size = size;
          behind = behind;
          keeps = keeps;
        }
