-- What an event leaves, by the tests that are made of what is handed in: not acceptable, refused by a later check, or granted.
use Rattle.std.specs.Prelude.{◌≡◌, ℕ, Bool, true, false, length}
use mathlib.Core.Path.{sym, ◌∙◌}
use native.Mathlib.Omega.{arith}
use Rattle.rules.specs.Events.{row}
use Rattle.rules.specs.Answers.{check, first_of, checks}
use Rattle.rules.proofs.Facts.{accepted}
use Rattle.rules.specs.Refusals.{number_of}
use Rattle.rules.specs.declared.Refusal.{Refusal}
use Rattle.core_tables.specs.Image.{tables_in}
use Rattle.core_tables.specs.Tested.{Tested}
use Rattle.core_answer.specs.Handed.{Handed, Left, given_in, machine_in, readable, refuses, stepped, keeps}
use Rattle.core_answer.proofs.Laws.{is_readable, refuses_first, refused_leaves}
use Rattle.core_accept.specs.Acceptable.{acceptable_in}
use Rattle.core_accept.proofs.Handed.{both_hold}
use Rattle.core_refuse.proofs.Orders.{numbered}

abbrev acceptable_here : Handed → Bool
acceptable_here h = acceptable_in h.setup h.tables h.saved h.frames h.store h.supply

-- the number that the checks after 10 come to
abbrev later_checks : Handed → ℕ
later_checks h =
    let t = tables_in h.setup.pages h.tables in
    first_of (checks h.setup t h.event (row h.setup t h.event) (length h.new) (length h.buffer))

module _ (h : Handed) where
  -- not acceptable: 10
  pub ten : {a : Bool} {l : Left} → a ≡ acceptable_here h → a ≡ false → l ≡ keeps 10 h → l ≡ stepped h
  unfolding first_of check
  ten is unfit q =
      q ∙ sym (refused_leaves h 10 (λ e. omega arith) (refuses_first h ∙ rw (sym is ∙ unfit)))

  module _ {a : Bool} (is : a ≡ acceptable_here h) (so : a ≡ true) where
    pub tested : Tested h.setup h.tables
    tested =
        let r = both_hold (readable h.setup h.tables h.saved) _ (sym is ∙ so) in
        let words = is_readable _ _ _ r.0 in
        let facts = accepted (given_in h) (machine_in h) r.1 in
        record {
          limited = facts.looks.sizes;
          long = words.tables_long;
          canonical = words.canonical;
          agreed = facts.looks.agrees;
        }

    -- acceptable: the checks that follow 10
    pub later : {n : ℕ} → n ≡ later_checks h → refuses h ≡ n
    unfolding first_of check
    later e = refuses_first h ∙ rw (sym is ∙ so, e)

    pub refused_by : (r : Refusal) {l : Left} → number_of r ≡ later_checks h → l ≡ keeps (number_of r) h → l ≡ stepped h
    refused_by r e q = q ∙ sym (refused_leaves h _ (numbered r) (later e))
