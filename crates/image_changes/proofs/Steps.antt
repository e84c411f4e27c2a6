-- What one item more in front makes of what leads from a list before to a list now.
use Rattle.std.proofs.Common.{◌≡◌, ◌∙◌, ℕ, List, [], ◌∷◌, map, Option, Some, None, refl, sym, subst}
use Rattle.std.specs.Ordering.{nat_cmp, on}
use Rattle.std.specs.Cmp.Lexicographic.{slice_cmp, nat_list_cmp_total}
use Rattle.std.specs.declared.cmp.Ordering.{Ordering}
use Rattle.std.specs.declared.cmp.Ordering.TheVariants.{Less, Equal}
use Rattle.std.proofs.lemmas.Cmp.{nat_cmp_total}
use Rattle.std.specs.Cmp.{nat_cmp_is}
use Rattle.model_values.specs.declared.cell.Binding.{Binding}
use Rattle.delta_form.specs.Changes.{by_number, changed}
use Rattle.delta_form.specs.After.{gone, new_binding}
use Rattle.image_changes.specs.Walks.{Above, Binds, Leads}
use Rattle.image_changes.proofs.Turns.{apart_gone, apart_written, made_at, made_below, rises_with, stays_some}

abbrev names : List ℕ → List ℕ → Ordering
names = slice_cmp nat_cmp

-- ---- variables

pub nothing_binds : Binds [] [] []
nothing_binds = record { made = refl; before_above = λ k above. tt; news_above = λ k above. tt; rise = refl }

pub binding_stays : (b : Binding) (bs ns news : List Binding) → Above names (λ x. x.name) b.name ns → Binds bs ns news → Binds (b ∷ bs) (b ∷ ns) news
binding_stays b bs ns news above binds = record {
  made = stays_some names nat_list_cmp_total (λ (x : Binding). x.name) (λ (x : Binding). x.name) new_binding b news bs ns (binds.news_above b.name above) binds.made;
  before_above = λ k all. (all.0, binds.before_above k all.1);
  news_above = λ k all. binds.news_above k all.1;
  rise = binds.rise;
}

pub binding_added : (b : Binding) (bs ns news : List Binding) → Above names (λ x. x.name) b.name ns → Binds bs ns news → Binds bs (b ∷ ns) (b ∷ news)
binding_added b bs ns news above binds = record {
  made =
      made_below names nat_list_cmp_total (λ (x : Binding). x.name) (λ (x : Binding). x.name) new_binding b news bs b (binds.before_above b.name above) refl
      ∙ stays_some names nat_list_cmp_total (λ (x : Binding). x.name) (λ (x : Binding). x.name) new_binding b news bs ns (binds.news_above b.name above) binds.made;
  before_above = λ k all. binds.before_above k all.1;
  news_above = λ k all. (all.0, binds.news_above k all.1);
  rise = rises_with (on (λ (x : Binding). x.name) names) b news (binds.news_above b.name above) binds.rise;
}

-- ---- items by numbers

module _ {C X : Type 0} (by : X → ℕ) (number : C → ℕ) (made : C → Option X → Option (Option X)) where
  pub nothing_leads : Leads by number made [] [] [] []
  nothing_leads = record {
    left = [];
    without = refl;
    made_now = refl;
    closed_above = λ k above. tt;
    left_above = λ k above. tt;
    written_above = λ k above. tt;
    closed_rise = refl;
    written_rise = refl;
    apart = refl;
  }

  -- the items that a list has by its numbers alone
  abbrev stays_gone : (b : X) (closed : List ℕ) (bs left : List X) → Above nat_cmp (λ n. n) (by b) closed → changed (by_number by (λ n. n) gone) closed bs ≡ Some left → changed (by_number by (λ n. n) gone) closed (b ∷ bs) ≡ Some (b ∷ left)
  stays_gone b closed bs left above e = stays_some nat_cmp nat_cmp_total by (λ n. n) gone b closed bs left above e

  pub item_stays : (b : X) (bs ns : List X) (closed : List ℕ) (written : List C) → Above nat_cmp by (by b) bs → Above nat_cmp by (by b) ns → Leads by number made bs ns closed written → Leads by number made (b ∷ bs) (b ∷ ns) closed written
  item_stays b bs ns closed written before now leads = record {
    left = b ∷ leads.left;
    without = stays_gone b closed bs leads.left (leads.closed_above (by b) before) leads.without;
    made_now = stays_some nat_cmp nat_cmp_total by number made b written leads.left ns (leads.written_above (by b) now) leads.made_now;
    closed_above = λ k all. leads.closed_above k all.1;
    left_above = λ k all. (all.0, leads.left_above k all.1);
    written_above = λ k all. leads.written_above k all.1;
    closed_rise = leads.closed_rise;
    written_rise = leads.written_rise;
    apart = leads.apart;
  }

  -- numbers that are the same
  above_same : (k m n : ℕ) → m ≡ n → nat_cmp k m ≡ Less → nat_cmp k n ≡ Less
  above_same k m n same less = subst (λ (x : ℕ). nat_cmp k x ≡ Less) same less

  pub item_written : (b n : X) (c : C) (bs ns : List X) (closed : List ℕ) (written : List C) → by b ≡ by n → number c ≡ by n → made c (Some b) ≡ Some (Some n)
      → Above nat_cmp by (by b) bs → Above nat_cmp by (by n) ns → Leads by number made bs ns closed written → Leads by number made (b ∷ bs) (n ∷ ns) closed (c ∷ written)
  item_written b n c bs ns closed written same its makes before now leads =
      let above : Above nat_cmp number (by n) written = leads.written_above (by n) now in
      let below : Above nat_cmp number (number c) written = subst (λ (k : ℕ). Above nat_cmp number k written) (sym its) above in
      let closed_all : Above nat_cmp (λ k. k) (number c) closed = subst (λ (k : ℕ). Above nat_cmp (λ m. m) k closed) (same ∙ sym its) (leads.closed_above (by b) before) in
      record {
        left = b ∷ leads.left;
        without = stays_gone b closed bs leads.left (leads.closed_above (by b) before) leads.without;
        made_now =
            made_at nat_cmp nat_cmp_total by number made b c written leads.left (Some n) (sym (nat_cmp_is (by b) (number c) Equal (same ∙ sym its))) makes
            ∙ stays_some nat_cmp nat_cmp_total by number made n written leads.left ns above leads.made_now;
        closed_above = λ k all. leads.closed_above k all.1;
        left_above = λ k all. (all.0, leads.left_above k all.1);
        written_above = λ k all. (above_same k (by n) (number c) (sym its) all.0, leads.written_above k all.1);
        closed_rise = leads.closed_rise;
        written_rise = rises_with (on number nat_cmp) c written below leads.written_rise;
        apart = apart_written (number c) closed (map number written) closed_all leads.apart;
      }

  pub item_added : (n : X) (c : C) (bs ns : List X) (closed : List ℕ) (written : List C) → number c ≡ by n → made c None ≡ Some (Some n)
      → Above nat_cmp by (by n) bs → Above nat_cmp by (by n) ns → Leads by number made bs ns closed written → Leads by number made bs (n ∷ ns) closed (c ∷ written)
  item_added n c bs ns closed written its makes before now leads =
      let above : Above nat_cmp number (by n) written = leads.written_above (by n) now in
      let below : Above nat_cmp number (number c) written = subst (λ (k : ℕ). Above nat_cmp number k written) (sym its) above in
      let left_all : Above nat_cmp by (number c) leads.left = subst (λ (k : ℕ). Above nat_cmp by k leads.left) (sym its) (leads.left_above (by n) before) in
      let closed_all : Above nat_cmp (λ k. k) (number c) closed = subst (λ (k : ℕ). Above nat_cmp (λ m. m) k closed) (sym its) (leads.closed_above (by n) before) in
      record {
        left = leads.left;
        without = leads.without;
        made_now =
            made_below nat_cmp nat_cmp_total by number made c written leads.left n left_all makes
            ∙ stays_some nat_cmp nat_cmp_total by number made n written leads.left ns above leads.made_now;
        closed_above = leads.closed_above;
        left_above = leads.left_above;
        written_above = λ k all. (above_same k (by n) (number c) (sym its) all.0, leads.written_above k all.1);
        closed_rise = leads.closed_rise;
        written_rise = rises_with (on number nat_cmp) c written below leads.written_rise;
        apart = apart_written (number c) closed (map number written) closed_all leads.apart;
      }

  pub item_gone : (b : X) (bs ns : List X) (closed : List ℕ) (written : List C) → Above nat_cmp by (by b) bs → Above nat_cmp by (by b) ns → Leads by number made bs ns closed written → Leads by number made (b ∷ bs) ns (by b ∷ closed) written
  item_gone b bs ns closed written before now leads = record {
    left = leads.left;
    without = made_at nat_cmp nat_cmp_total by (λ n. n) gone b (by b) closed bs None (sym (nat_cmp_is (by b) (by b) Equal refl)) refl ∙ leads.without;
    made_now = leads.made_now;
    closed_above = λ k all. (all.0, leads.closed_above k all.1);
    left_above = λ k all. leads.left_above k all.1;
    written_above = leads.written_above;
    closed_rise = rises_with nat_cmp (by b) closed (leads.closed_above (by b) before) leads.closed_rise;
    written_rise = leads.written_rise;
    apart = apart_gone number (by b) closed written (leads.written_above (by b) now) leads.apart;
  }
