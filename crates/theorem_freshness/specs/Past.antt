-- Words of demand 3's second half: what a run's own events and answers tell, looking back, of a context and of a page. Nothing
-- here asks a machine's tables or bytes.
use Rattle.std.specs.Prelude.{List, [], ◌∷◌, Bool, true, false, cond, ℕ, ◌+◌, ◌-◌, get_or, set, replicate, eqb, leb, ltb}
use Rattle.rules.specs.Bytes.{words_in, all_of}
use Rattle.rules.specs.Records.{Given, Machine}
use Rattle.rules.specs.Answers.{start}
use Rattle.rules.specs.Runs.{Ask}
use Rattle.rules.specs.declared.Asid.{Asid}
use Rattle.rules.specs.declared.Gvpn.{Gvpn}
use Rattle.rules.specs.declared.Ctc.{Ctc}
use Rattle.rules.specs.declared.Span.{Span}
use Rattle.rules.specs.declared.TrapKind.{TrapKind}
use Rattle.rules.specs.declared.TrapKind.TheVariants.{Interrupt, Call}
use Rattle.rules.specs.declared.Event.{Event}
use Rattle.rules.specs.declared.Event.TheVariants.{Begin, End, Map, Unmap, KernelRead, KernelWrite, Resume}
use Rattle.rules.specs.declared.Event.TheVariants.{Spawn, Leave, Cloak, Uncloak, Read, Write, Trap}
use Rattle.theorem_reached.specs.States.{answered}

-- an event of the past: what was asked, and the number answered
pub record Past : Type 0 where
  pub event : Event
  pub new : List ℕ
  pub number : ℕ

-- a run's past, the latest event first
unfoldable pub past_from : Given → Machine → List Ask → List Past → List Past
past_from g m [] earlier = earlier
past_from g m (a ∷ asks) earlier =
    let o = answered g m a in
    past_from g o.machine asks (record { event = a.event; new = a.new; number = o.number } ∷ earlier)

abbrev pub past : Given → List ℕ → List ℕ → List Ask → List Past
past g frames store asks = past_from g (start g frames store) asks []

abbrev pub granted : Past → Bool
granted p = eqb p.number 0

-- Of a context: the domain in which it was begun or spawned, and its latest trap, with the registers that it brought
pub record OfContext : Type 0 where
  pub home : Asid
  pub kind : TrapKind
  pub registers : List ℕ

abbrev pub unheard : OfContext
unheard = record { home = record { 0 = 0 }; kind = Interrupt; registers = replicate 8 0 }

abbrev pub same_context : Ctc → Ctc → Bool
same_context c u = eqb c.0 u.0

-- what a granted event tells of context c, with what was told before it
unfoldable pub context_after : Event → List ℕ → (Ctc → OfContext) → Ctc → OfContext
context_after (Begin d u) new before c =
    cond (same_context u c) (record { home = d; kind = (before c).kind; registers = (before c).registers }) (before c)
context_after (End d) new before c = before c
context_after (Map d v f) new before c = before c
context_after (Unmap d v) new before c = before c
context_after (KernelRead f x) new before c = before c
context_after (KernelWrite f x) new before c = before c
context_after (Resume d u) new before c = before c
context_after (Spawn t u) new before c =
    cond (same_context u c) (record { home = (before t).home; kind = (before c).kind; registers = (before c).registers })
    (before c)
context_after (Leave u) new before c = before c
context_after (Cloak u v) new before c = before c
context_after (Uncloak u v) new before c = before c
context_after (Read u v x) new before c = before c
context_after (Write u v x) new before c = before c
context_after (Trap u k mask) new before c =
    cond (same_context u c) (record { home = (before c).home; kind = k; registers = words_in 8 new }) (before c)

unfoldable pub context_by : List Past → Ctc → OfContext
context_by [] = λ c. unheard
context_by (p ∷ earlier) =
    let before = context_by earlier in
    λ c. cond (granted p) (context_after p.event p.new before c) (before c)

-- Of a page: whether it is private, which it is from a granted cloak to a granted uncloak or the end of its domain; and of each
-- of its bytes what was last written there by a granted write since it was cloaked, or zero where nothing was
pub record OfPage : Type 0 where
  pub private : Bool
  pub last_written : ℕ → ℕ

abbrev pub shared : OfPage
shared = record { private = false; last_written = λ i. 0 }

abbrev pub same_page : Asid → Gvpn → Asid → Gvpn → Bool
same_page d v e w = all_of (eqb d.0 e.0 ∷ eqb v.0 w.0 ∷ [])

abbrev pub covers : Span → ℕ → Bool
covers x i = all_of (leb x.off i ∷ ltb i (x.off + x.len) ∷ [])

-- what a granted event tells of page d, v, with the domains of the contexts and what was told before it
unfoldable pub page_after : Event → List ℕ → (Ctc → OfContext) → Asid → Gvpn → OfPage → OfPage
page_after (Begin e c) new context d v before = before
page_after (End e) new context d v before = cond (eqb d.0 e.0) shared before
page_after (Map e w f) new context d v before = before
page_after (Unmap e w) new context d v before = before
page_after (KernelRead f x) new context d v before = before
page_after (KernelWrite f x) new context d v before = before
page_after (Resume e c) new context d v before = before
page_after (Spawn c u) new context d v before = before
page_after (Leave c) new context d v before = before
page_after (Cloak c w) new context d v before =
    cond (same_page (context c).home w d v) (record { private = true; last_written = λ i. 0 }) before
page_after (Uncloak c w) new context d v before = cond (same_page (context c).home w d v) shared before
page_after (Read c w x) new context d v before = before
page_after (Write c w x) new context d v before =
    cond (same_page (context c).home w d v)
    (record {
      private = before.private;
      last_written = λ i. cond (covers x i) (get_or new (i - x.off) 0) (before.last_written i);
    })
    before
page_after (Trap c k mask) new context d v before = before

unfoldable pub page_by : List Past → Asid → Gvpn → OfPage
page_by [] d v = shared
page_by (p ∷ earlier) d v =
    let before = page_by earlier d v in
    cond (granted p) (page_after p.event p.new (context_by earlier) d v before) before

-- the registers that a resume with the data value x should give: those of the latest trap, register 0 being x after a call
abbrev pub resumed_by : TrapKind → List ℕ → ℕ → List ℕ
resumed_by Interrupt registers x = registers
resumed_by Call registers x = set registers 0 x

abbrev pub resumed_with : OfContext → ℕ → List ℕ
resumed_with c x = resumed_by c.kind c.registers x
