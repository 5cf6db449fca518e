-- What is counted is what was asked for.
use Rattle.std.proofs.Common.{◌≡◌, ◌&&◌, ◌∙◌, [], length, ap, sym, bytes_eq, List}
use Rattle.c_tree.specs.Plain.{Word}
use Rattle.c_tree.specs.Trees.{stmts, unit}
use Rattle.c_tree.specs.declared.unit.Unit.{Unit}
use Rattle.sites.specs.Asked.{ints_of, number_asked}
use Rattle.sites.specs.Found.{found_all}
use Rattle.sites.specs.Shown.{asks}
use Rattle.sites.specs.Sites.{Site, around, first_variable, is_of, all_sites}
use Rattle.sites.specs.declared.question.Ask.{Ask}
use Rattle.sites.proofs.Counting.{counted_all}
use Rattle.sites.proofs.Filtered.{filter_both}

pub asked_is : (u : Unit) (x : Word) (a : Ask) →
    found_all (λ fs r. bytes_eq x r.name && asks a (ints_of u) fs r.at r.writes) (stmts u.body) [] ≡ number_asked u x a
asked_is u x a =
    counted_all (λ fs r. bytes_eq x r.name && asks a (ints_of u) fs r.at r.writes) (stmts u.body) 1 (first_variable (unit u)) []
    ∙ sym (ap (λ (ss : List Site). length ss) (filter_both (is_of x) (λ s. asks a (ints_of u) (around s) s.reach.at s.reach.writes) (all_sites (unit u))))
