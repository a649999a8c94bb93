-- The slash that is found is the last.
use Rattle.std.proofs.Common.{Some, None, lit<}
use Rattle.std.proofs.lemmas.Str.Pattern.{rfind_char}
use Rattle.glass_edges.proofs.Paths.{split-none, split-last}
use Rattle.glass_edges.proofs.fresh_name.split_path.Goals as goal

pub returns-in-Some : goal.returns-in-Some
returns-in-Some c =
    let found = rfind_char 47 c.args.path.now (Some c.in-Some.at) c.in-Some.ensures.cases (lit< tt) in
    rw (c.split_at.ensures.front, c.split_at.ensures.back) (split-last c.args.path.now c.in-Some.at found.0 found.1 found.2)

pub returns-in-None : goal.returns-in-None
returns-in-None c = split-none c.args.path.now (rfind_char 47 c.args.path.now None c.in-None.ensures.cases (lit< tt))
