-- Parts of a run of steps.
use Rattle.std.proofs.Common.{List, [], ◌∷◌, ◌++◌, refl, subst}
use Rattle.pb_history.specs.Words.{StateOf, TableStep}
use Rattle.pb_history.specs.declared.entry.Entry.{Entry}
use Rattle.pb_history.specs.Journals.{JournalLeads}

-- a beginning and the rest
pub leads_in_parts : (s : StateOf) (before after : List Entry) (t : StateOf) → JournalLeads s (before ++ after) t → (mid : StateOf) × JournalLeads s before mid × JournalLeads mid after t
leads_in_parts s [] after t r = (s, refl, r)
leads_in_parts s (d ∷ before) after t r = let p = leads_in_parts r.0 before after t r.2 in (p.0, (r.0, r.1, p.1), p.2)

-- the entries before one, its step, and those after it
pub leads_around : (s : StateOf) (before : List Entry) (e : Entry) (after : List Entry) (t : StateOf) → JournalLeads s (before ++ e ∷ after) t
    → (mid : StateOf) × JournalLeads s before mid × (next : StateOf) × TableStep mid e.seat e.step e.answer next × JournalLeads next after t
leads_around s before e after t r = let p = leads_in_parts s before (e ∷ after) t r in (p.0, p.1, p.2.0, p.2.1, p.2.2)

-- a journal and one step more
pub one_more : (s : StateOf) (before : List Entry) (mid : StateOf) (e : Entry) (next : StateOf) → JournalLeads s before mid → TableStep mid e.seat e.step e.answer next → JournalLeads s (before ++ e ∷ []) next
one_more s [] mid e next r m = (next, subst (λ z. TableStep z e.seat e.step e.answer next) r m, refl)
one_more s (d ∷ before) mid e next r m = (r.0, r.1, one_more r.0 before mid e next r.2 m)
