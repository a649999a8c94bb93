-- By the number of the first item, which is 0.
use Rattle.std.proofs.Common.{Some, None, get_or}
use Rattle.glass_edges.proofs.FirstByIndex.{first-from, none-from, from-zero}
use Rattle.glass_edges.proofs.first_refusal.first_found_is_first.Goals as goal

pub returns-clause-found : goal.returns-clause-found
returns-clause-found g c = λ test xs e found. let r = first-from test 0 xs e found in (r.0, r.1, (λ d. from-zero test r.0 (get_or xs r.0 d) (Some e) (r.2 d)), (λ j d lt. from-zero test j (get_or xs j d) None (r.3 j d lt)))

pub returns-clause-none : goal.returns-clause-none
returns-clause-none g c = λ test xs none j d lt. from-zero test j (get_or xs j d) None (none-from test 0 xs none j d lt)
