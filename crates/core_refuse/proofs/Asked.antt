-- The rules' checks on the records (specs/Stages.antt), opened at each event: what is asked of the records that it names, and of
-- the signatures that are left. Events that ask the same are asked by one function.
use mathlib.Core.Path.{◌≡◌, refl}
use mathlib.Core.Bool.{Bool, true, ◌&&◌, not, cond, and-true}
use mathlib.Core.List.{◌++◌}
use native.Mathlib.Nat.{add-zero}
use Prim.Native.Nat.{ℕ, ◌+◌, ◌≤◌, ◌<◌}
use Rattle.rules.specs.Bytes.{all_of}
use Rattle.rules.specs.Records.{life_of, activity_of, mapping_of, place_of, names_of, domain_of, frame_of, is_empty, is_stopped, is_free}
use Rattle.rules.specs.Records.{is_running, is_kept_in, is_unmapped, is_public, is_clear_in}
use Rattle.rules.specs.Sealing.{takes_at, takes_named, needed}
use Rattle.rules.specs.Events.{row, on_records, on_frame, acting, on_page, touching, running, not_stopped, own_place, own_frame}
use Rattle.rules.specs.Events.{own_mapped}
use Rattle.rules.specs.Answers.{check, first_of}
use Rattle.rules.specs.Asked.{Limited, Agreed}
use Rattle.rules.proofs.Facts.{some_mapped}
use Rattle.core_tables.proofs.Homes.{own_frame_holds}
use Rattle.core_refuse.specs.Stages.{record_checks, seal_checks, by_row, standing}
use Rattle.core_refuse.proofs.Orders.{stage_refused, records_passed, none_asked, mapped_told}
use Rattle.core_refuse.proofs.Needs.{own_needed}
use Rattle.rules.specs.declared.Setup.{Setup}
use Rattle.rules.specs.declared.Tables.{Tables}
use Rattle.rules.specs.declared.Asid.{Asid}
use Rattle.rules.specs.declared.Gvpn.{Gvpn}
use Rattle.rules.specs.declared.Gppn.{Gppn}
use Rattle.rules.specs.declared.Ctc.{Ctc}
use Rattle.rules.specs.declared.Span.{Span}
use Rattle.rules.specs.declared.TrapKind.{TrapKind}
use Rattle.rules.specs.declared.Event.TheVariants.{Begin, End, Map, Unmap, KernelRead, KernelWrite, Resume, Spawn, Leave, Cloak}
use Rattle.rules.specs.declared.Event.TheVariants.{Uncloak, Read, Write, Trap}

module _ (s : Setup) (t : Tables) where
  pub begin : (d : Asid) (c : Ctc) → t.used ≤ s.signatures
      → standing s t (Begin d c) ≡ first_of (record_checks (is_empty (life_of t d) && is_free (activity_of t c)) true true)
  unfolding standing by_row row on_records needed all_of
  begin d c h = rw and-true (none_asked s t.used _ h)

  pub end : (d : Asid) → t.used ≤ s.signatures
      → standing s t (End d) ≡ first_of (record_checks (not (is_empty (life_of t d))) true true)
  unfolding standing by_row row on_records needed
  end d h = none_asked s t.used _ h

  pub unmap : (d : Asid) (v : Gvpn) → t.used ≤ s.signatures
      → standing s t (Unmap d v)
      ≡ first_of (record_checks (not (is_empty (life_of t d))) true (not (is_unmapped (mapping_of s t d v))))
  unfolding standing by_row row on_records needed
  unmap d v h = none_asked s t.used _ h

  pub kernel : (f : Gppn) (x : Span)
      → standing s t (KernelRead f x) ≡ first_of (seal_checks s t.used (takes_named s t (names_of t f)))
  unfolding standing by_row row on_frame record_checks check first_of needed
  kernel f x = rw add-zero

  pub resume : (d : Asid) (c : Ctc) → t.used ≤ s.signatures
      → standing s t (Resume d c)
      ≡ first_of (record_checks (is_kept_in d (activity_of t c)) (not (is_stopped (life_of t d))) true)
  unfolding standing by_row row on_records not_stopped needed
  resume d c h = none_asked s t.used _ h

  pub spawn : (c u : Ctc) → t.used ≤ s.signatures
      → standing s t (Spawn c u)
      ≡ first_of
      (record_checks (is_running (activity_of t c) && is_free (activity_of t u)) (not (is_stopped (life_of t (domain_of t c)))) true)
  unfolding standing by_row row acting running not_stopped needed all_of
  spawn c u h = rw and-true (none_asked s t.used _ h)

  pub leave : (c : Ctc) → t.used ≤ s.signatures
      → standing s t (Leave c)
      ≡ first_of (record_checks (is_running (activity_of t c)) (not (is_stopped (life_of t (domain_of t c)))) true)
  unfolding standing by_row row acting running not_stopped needed all_of
  leave c h = rw and-true (none_asked s t.used _ h)

  pub uncloak : (c : Ctc) (v : Gvpn) → t.used ≤ s.signatures
      → standing s t (Uncloak c v)
      ≡ first_of
      (record_checks (is_running (activity_of t c) && not (is_public (place_of s t (domain_of t c) v)))
      (not (is_stopped (life_of t (domain_of t c)))) true)
  unfolding standing by_row row acting running not_stopped own_place needed all_of
  uncloak c v h = rw and-true (none_asked s t.used _ h)

  pub cloak : (c : Ctc) (v : Gvpn)
      → standing s t (Cloak c v)
      ≡ first_of
      (record_checks (is_running (activity_of t c) && is_public (place_of s t (domain_of t c) v))
      (not (is_stopped (life_of t (domain_of t c)))) (not (is_unmapped (mapping_of s t (domain_of t c) v)))
      ++ seal_checks s t.used (takes_named s t (names_of t (frame_of s t (domain_of t c) v))))
  unfolding standing by_row row on_page running not_stopped own_place own_frame own_mapped needed all_of
  cloak c v = rw (and-true, add-zero)

  -- of records that agree
  module _ (size : Limited s) (agrees : Agreed s t) (c : Ctc) (v : Gvpn) (known : c.0 < s.contexts) (below : v.0 < s.pages) where
    -- the frame of a page that is mapped is one of the setup's
    pub frame_known : (condition live : Bool)
        → 0 ≡ first_of (record_checks condition live (not (is_unmapped (mapping_of s t (domain_of t c) v))))
        → (frame_of s t (domain_of t c) v).0 < s.frames
    unfolding own_mapped own_frame
    frame_known condition live e = own_frame_holds s t size agrees c v known below (mapped_told condition live _ e)

    pub touch : (x : Span)
        → standing s t (Read c v x)
        ≡ first_of
        (record_checks (is_running (activity_of t c)) (not (is_stopped (life_of t (domain_of t c))))
        (not (is_unmapped (mapping_of s t (domain_of t c) v)))
        ++ seal_checks s t.used
        (cond (is_clear_in (frame_of s t (domain_of t c) v) (place_of s t (domain_of t c) v)) 0
        (takes_at (place_of s t (domain_of t c) v) + takes_named s t (names_of t (frame_of s t (domain_of t c) v)))))
    unfolding standing by_row row touching on_page running not_stopped own_place own_frame own_mapped all_of
    touch x = rw (and-true, own_needed s t size agrees c v known below)

  -- events that ask the same
  pub map : (d : Asid) (v : Gvpn) (f : Gppn) → standing s t (Map d v f) ≡ standing s t (End d)
  unfolding standing by_row row
  map d v f = refl

  pub kernel_write : (f : Gppn) (x : Span) → standing s t (KernelWrite f x) ≡ standing s t (KernelRead f x)
  unfolding standing by_row row
  kernel_write f x = refl

  pub write : (c : Ctc) (v : Gvpn) (x : Span) → standing s t (Write c v x) ≡ standing s t (Read c v x)
  unfolding standing by_row row
  write c v x = refl

  pub trap : (c : Ctc) (k : TrapKind) (mask : ℕ) → standing s t (Trap c k mask) ≡ standing s t (Leave c)
  unfolding standing by_row row acting
  trap c k mask = refl

-- what the functions that ask for a mapping cite: whether there is one is asked of an `Option`
pub ruleset unmapped = (unmap, some_mapped)

pub ruleset cloaked = (cloak, some_mapped, frame_known, stage_refused, records_passed)

pub ruleset touched = (touch, some_mapped, frame_known, stage_refused, records_passed, none_asked)
