-- The runs of the night, move by move.
use Rattle.std.proofs.Common.{[], codes, ◌++◌, ◌≡◌, ◌∷◌, List, None, Ok, Option, Some, ap, false, inl, inr, option_map, refl, subst, sym, true, ℕ}
use Rattle.calendars.specs.Dates.{day_of, days_before, days_of_months, days_of_years}
use Rattle.calendars.specs.Written.{date_of}
use Rattle.conman_syntax.specs.Arguments.{argument_behind, argument_from, left_behind, left_from}
use Rattle.conman_syntax.specs.Heads.{dependency_head, head_of, is_word, job_head, network_head, node_head, object_head, other_show_head, show_head, station_head}
use Rattle.conman_syntax.specs.Rows.{due_line, j_next_plan, row}
use Rattle.conman_syntax.specs.declared.lines.Line.TheVariants as line
use Rattle.file_watch.specs.Circle.{DepPlace}
use Rattle.recovery_watch.specs.Advice.{advice}
use Rattle.file_watch.specs.Probes.{next_probe}
use Rattle.mail_frames.specs.Spelling.{frame_bytes}
use Rattle.mail_frames.specs.declared.frames.Frame.TheVariants as frame
use Rattle.model.specs.Everything.{everything}
use Rattle.model.specs.Types.{Cmd, Command, Entry, Events, Input, Linked, Mail, Next, Turn, Typed}
use Rattle.model.specs.Words.{with_at}
use Rattle.outside.specs.declared.links.Arrival.TheVariants as arrival
use Rattle.agent_core.specs.Nodes.{NodeState, present_in, view_in}
use Rattle.agent_core.specs.Steps.{IsTaken, quiet}
use Rattle.workload_defs.specs.Nets.{net_of}
use Rattle.node_inputs.specs.Actions.{Each, IfThere, Nothing, Then}
use Rattle.node_inputs.specs.Inputs.{Carried, CarryOut, Follow, Lose, SendIt, Take, Takes, carried_with}
use Rattle.node_inputs.specs.Traces.{Event, Trace}
use Rattle.node_inputs.specs.declared.ends.NodeEnd.{NodeEnd}
use Rattle.node_inputs.specs.declared.ends.NodeEnd.TheVariants.{NoMemory}
use Rattle.node_lines.specs.Lines.{Answer, AnswerBy, Listen, PlanBy, Serve, plan_text, reply_text}
use Rattle.node_replies.specs.Replies.{plan_line}
use Rattle.node_loop.specs.Frames.{Frames, entry_of, input_of}
use Rattle.node_loop.specs.Heard.{Heard, heard_more, nothing_heard}
use Rattle.node_loop.specs.Runs.{Advise, Arrive, Looks, On, Probing, Reports, Run, Running, TurnOf, running, running_with}
use Rattle.network_runs.specs.Nights.{IsBegun, IsLife}
use Rattle.worked_night.specs.Happened.{answer, cut_turn, first_turn, later_turn, launched, mail, none_ended, order, plan, released, second_turn, sent}
use Rattle.worked_night.specs.Workload.{defs, draft}
use Rattle.worked_night.proofs.Days.{drafts_first, net_is, no_fault}
use Rattle.worked_night.proofs.Frames.{are_one, good_one, mail_frame, order_frame}
use Rattle.worked_night.proofs.Turns.{follows_none, follows_quiet, keeps, launch_taken, launches, launching, linked, links_up, no_advice_linked, no_advice_mailed, no_advice_planned, no_probe_linked, no_probe_mailed, no_probe_planned, node_of, plan_mailed, plans, raises_none, releases}
use Rattle.worked_night.proofs.Written.{plan_read}

-- a step that keeps its entry, and gives nothing out
takes_with : (old now : NodeState) (input : Input) (e : Entry) → IsTaken old input (keeps e) now
    → present_in now ≡ present_in old → now.me ≡ old.me → Takes Follow input old (Event.Keeps e ∷ []) None now
takes_with old now input e step_ same me = record {
  step = keeps e;
  after = now;
  taken = step_;
  acts =
      inl (record {
        front = Event.Keeps e ∷ [];
        back = [];
        middle = now;
        split = refl;
        begins = (inl (refl, refl), refl);
        goes_on = follows_none old now e same me;
      });
}

-- what is behind the arrival in a turn: no process has ended, no file is looked for, nothing is advised, and then the turn
pub behind_arrival : (old : Running) (t : ℕ) (trace : Trace) (end : Option NodeEnd) (new : NodeState)
    → next_probe (view_in old.node) old.node.me old.asked ≡ None → advice (view_in old.node) old.node.me ≡ None
    → Take (Input.Local (Turn t)) old.node trace end new
    → Then (On (λ o u e n. Reports o u e n))
    (Then Probing (Then (On Advise) (On (Take (Input.Local (Turn t)))))) old (none_ended ∷ trace) end (running_with new old.heard old.asked)
behind_arrival old t trace end new no_probe no_advice takes =
    inl (record {
      front = none_ended ∷ [];
      back = trace;
      middle = old;
      split = refl;
      begins = record {
        acts = record { answer = Ok None; rest = []; split = refl; acts = (refl, refl, refl) };
        heard_ = refl;
        asked_ = refl;
      };
      goes_on =
          inl (record {
            front = [];
            back = trace;
            middle = old;
            split = refl;
            begins = probing;
            goes_on =
                inl (record {
                  front = [];
                  back = trace;
                  middle = old;
                  split = refl;
                  begins = record { acts = advising; heard_ = refl; asked_ = refl };
                  goes_on = record { acts = takes; heard_ = refl; asked_ = refl };
                });
          });
    })
  where
    probing : Probing old [] None old
    probing = probed (next_probe (view_in old.node) old.node.me old.asked) no_probe
      where
        probed : (p : Option DepPlace) → p ≡ None
            → IfThere p (λ (place : DepPlace). λ o u e n. Looks place o u e n) Nothing old [] None old
        probed None none = (refl, refl, refl)
        probed (Some place) none = cc

    advising : Advise old.node [] None old.node
    advising = advised (advice (view_in old.node) old.node.me) no_advice
      where
        advised : (c : Option Cmd) → c ≡ None
            → IfThere c (λ (c : Cmd). Take (Input.Local (Typed old.node.me c))) Nothing old.node [] None old.node
        advised None none = (refl, refl, refl)
        advised (Some c) none = cc

-- ---- the order of the plan

line_is : due_line (codes "jnextplan 01/01/1970") ≡ Ok (line.JNextPlan 0)
unfolding due_line head_of is_word dependency_head object_head job_head station_head network_head show_head
    other_show_head node_head row j_next_plan date_of day_of days_before days_of_years days_of_months
    argument_behind argument_from left_behind left_from
line_is = refl

planned_present : present_in (node_of 0 (plan ∷ [])) ≡ present_in (node_of 0 [])
unfolding everything
planned_present = refl

released_present : present_in (node_of 0 (plan ∷ released ∷ [])) ≡ present_in (node_of 0 (plan ∷ []))
unfolding everything
released_present = refl

linked_present : present_in linked ≡ present_in (node_of 0 (plan ∷ released ∷ []))
unfolding everything
linked_present = refl

launching_present : present_in launching ≡ present_in linked
unfolding everything
launching_present = refl

mailed_present : present_in (node_of 1 (plan ∷ [])) ≡ present_in (node_of 1 [])
unfolding everything
mailed_present = refl

abbrev reply : Event
reply = Event.Replies (record { bytes = frame_bytes answer; ok = true })

says_plan : plan_text (node_of 0 (plan ∷ [])) ≡ plan_line 1
unfolding everything
says_plan = refl

serves : Serve (Input.Local (Next (draft ∷ []))) plan_text (node_of 0 []) (Event.Keeps plan ∷ reply ∷ []) None (node_of 0 (plan ∷ []))
serves =
    inl (inl (inl (record {
      front = Event.Keeps plan ∷ [];
      back = reply ∷ [];
      middle = node_of 0 (plan ∷ []);
      split = refl;
      begins = takes_with (node_of 0 []) (node_of 0 (plan ∷ [])) (Input.Local (Next (draft ∷ []))) plan plans planned_present refl;
      goes_on = inl (true, (said, refl, refl));
    })))
  where
    said : ◌≡◌ {A = Trace} (reply ∷ [])
        (Event.Replies (record { bytes = frame_bytes (frame.Reply (reply_text (plan_text (node_of 0 (plan ∷ []))))); ok = true }) ∷ [])
    said =
        ap (λ (t : List ℕ). Event.Replies (record { bytes = frame_bytes (frame.Reply (reply_text t)); ok = true }) ∷ [])
        (sym says_plan)

answers : Answer defs (codes "jnextplan 01/01/1970") (node_of 0 []) (Event.Keeps plan ∷ reply ∷ []) None (node_of 0 (plan ∷ []))
answers =
    inl (subst (λ r. AnswerBy defs r (node_of 0 []) (Event.Keeps plan ∷ reply ∷ []) None (node_of 0 (plan ∷ []))) (sym line_is)
    (inl (subst (λ f. PlanBy defs 0 f (node_of 0 []) (Event.Keeps plan ∷ reply ∷ []) None (node_of 0 (plan ∷ []))) (sym no_fault)
    (draft ∷ [], drafts_first, serves))))

listens : Listen defs (frame_bytes order) (node_of 0 []) (Event.Keeps plan ∷ reply ∷ []) None (node_of 0 (plan ∷ []))
listens =
    inl (
      order ∷ [],
      are_one order order_frame,
      inl (record {
        front = Event.Keeps plan ∷ reply ∷ [];
        back = [];
        middle = node_of 0 (plan ∷ []);
        split = refl;
        begins = answers;
        goes_on = (refl, refl, refl);
      }),
    )

first_is : TurnOf defs (running (node_of 0 [])) first_turn None (running (node_of 0 (plan ∷ released ∷ [])))
first_is = record {
  reading = 100;
  rest =
      Event.Comes (arrival.Client (frame_bytes order)) ∷ Event.Keeps plan ∷ reply ∷ none_ended ∷ Event.Keeps released ∷ [];
  split = refl;
  acts =
      inl (record {
        front = Event.Comes (arrival.Client (frame_bytes order)) ∷ Event.Keeps plan ∷ reply ∷ [];
        back = none_ended ∷ Event.Keeps released ∷ [];
        middle = running (node_of 0 (plan ∷ []));
        split = refl;
        begins =
            inl (record {
              arrived = arrival.Client (frame_bytes order);
              rest = Event.Keeps plan ∷ reply ∷ [];
              there = λ q. cc;
              split = refl;
              arrives = record { acts = listens; heard_ = refl; asked_ = refl };
            });
        goes_on =
            behind_arrival (running (node_of 0 (plan ∷ []))) 100 (Event.Keeps released ∷ []) None (node_of 0 (plan ∷ released ∷ []))
            no_probe_planned no_advice_planned
            (inl (inl (takes_with (node_of 0 (plan ∷ [])) (node_of 0 (plan ∷ released ∷ [])) (Input.Local (Turn 100)) released releases
            released_present refl)));
      });
}

-- ---- the launch

abbrev heard_none : ℕ → Heard
heard_none = with_at 1 nothing_heard (λ x. nothing_heard)

link_taken : Take (Input.Local (Linked 1)) (node_of 0 (plan ∷ released ∷ [])) [] None linked
link_taken =
    inl (inl (record {
      step = quiet;
      after = linked;
      taken = links_up;
      acts =
          inl (record {
            front = [];
            back = [];
            middle = linked;
            split = refl;
            begins = ((refl, refl), refl);
            goes_on = follows_quiet (node_of 0 (plan ∷ released ∷ [])) linked linked_present refl;
          });
    }))

abbrev started : Carried
started = carried_with [] (Some (1, true))

abbrev starts : Event
starts = Event.Starts (record { job = 1; number = 1; work = Command (codes "true"); ok = true })

sends_plan : SendIt launching 1 (Mail (Events 0) 1) started (Event.Sends sent ∷ []) None started
unfolding everything
sends_plan = inl (true, refl, refl, refl)

carries : Each (CarryOut launching) launches.outs (carried_with [] None) (starts ∷ Event.Sends sent ∷ []) (Some NoMemory) started
carries =
    inl (record {
      front = starts ∷ [];
      back = Event.Sends sent ∷ [];
      middle = started;
      split = refl;
      begins = (true, refl, refl, refl);
      goes_on =
          inl (record {
            front = Event.Sends sent ∷ [];
            back = [];
            middle = started;
            split = refl;
            begins = sends_plan;
            goes_on = inr (record { why = NoMemory; for_that_cause = refl; ends = inr (refl, refl, refl) });
          });
    })

turn_launches : Take (Input.Local (Turn 100)) linked (Event.Keeps launched ∷ starts ∷ Event.Sends sent ∷ []) (Some NoMemory) launching
turn_launches =
    inl (inl (record {
      step = launches;
      after = launching;
      taken = launch_taken;
      acts =
          inl (record {
            front = Event.Keeps launched ∷ [];
            back = starts ∷ Event.Sends sent ∷ [];
            middle = launching;
            split = refl;
            begins = (inl (refl, refl), refl);
            goes_on =
                inl (record {
                  front = [];
                  back = starts ∷ Event.Sends sent ∷ [];
                  middle = launching;
                  split = refl;
                  begins = raises_none linked launching launching_present refl;
                  goes_on =
                      inr (record { carried = started; for_want_of_memory = refl; carries = carries; same = refl });
                });
          });
    }))

second_is : TurnOf defs (running (node_of 0 (plan ∷ released ∷ []))) second_turn (Some NoMemory) (running_with launching heard_none None)
second_is = record {
  reading = 100;
  rest = Event.Comes (arrival.Up 1) ∷ none_ended ∷ Event.Keeps launched ∷ starts ∷ Event.Sends sent ∷ [];
  split = refl;
  acts =
      inl (record {
        front = Event.Comes (arrival.Up 1) ∷ [];
        back = none_ended ∷ Event.Keeps launched ∷ starts ∷ Event.Sends sent ∷ [];
        middle = running_with linked heard_none None;
        split = refl;
        begins =
            inl (record {
              arrived = arrival.Up 1;
              rest = [];
              there = λ q. cc;
              split = refl;
              arrives =
                  inl (record {
                    front = [];
                    back = [];
                    middle = running_with (node_of 0 (plan ∷ released ∷ [])) heard_none None;
                    split = refl;
                    begins = (refl, refl, refl);
                    goes_on = record { acts = link_taken; heard_ = refl; asked_ = refl };
                  });
            });
        goes_on =
            behind_arrival (running_with linked heard_none None) 100 (Event.Keeps launched ∷ starts ∷ Event.Sends sent ∷ [])
            (Some NoMemory) launching no_probe_linked no_advice_linked turn_launches;
      });
}

master_runs : Run defs 2 (running (node_of 0 [])) (first_turn ++ second_turn) (Some NoMemory) (running_with launching heard_none None)
master_runs =
    inl (record {
      front = first_turn;
      back = second_turn;
      middle = running (node_of 0 (plan ∷ released ∷ []));
      split = refl;
      begins = first_is;
      goes_on = inr (record { why = NoMemory; for_that_cause = refl; ends = second_is });
    })

begun : (me : ℕ) (kept : List Entry) → IsBegun (net_of defs) me kept (node_of me kept)
begun me kept = record { net_ = sym net_is; me_ = refl; kept_ = refl; session_ = refl }

pub master_lives : IsLife defs 0 [] (first_turn ++ second_turn) None
master_lives = record {
  start = node_of 0 [];
  begun = begun 0 [];
  turns = 2;
  rest = [];
  end = Some NoMemory;
  new = running_with launching heard_none None;
  runs = master_runs;
  left_ = tt;
}

-- ---- the mail

abbrev heard_mail : ℕ → Heard
heard_mail = with_at 0 (heard_more nothing_heard (frame_bytes mail) (mail ∷ [])) (λ x. nothing_heard)

mail_input : input_of 0 mail ≡ Some (Input.Mail 0 plan)
mail_input = ap (λ r. option_map (λ (e : Entry). Input.Mail 0 e) (entry_of r)) plan_read

reads_mail : Frames 0 false (mail ∷ []) (node_of 1 []) (Event.Keeps plan ∷ []) None (node_of 1 (plan ∷ []))
reads_mail =
    inl (subst (λ i. IfThere i (λ (i : Input). Then (Take i) (Frames 0 false [])) (Lose 0)
    (node_of 1 []) (Event.Keeps plan ∷ []) None (node_of 1 (plan ∷ []))) (sym mail_input)
    (inl (record {
      front = Event.Keeps plan ∷ [];
      back = [];
      middle = node_of 1 (plan ∷ []);
      split = refl;
      begins =
          inl (inl (takes_with (node_of 1 []) (node_of 1 (plan ∷ [])) (Input.Mail 0 plan) plan plan_mailed mailed_present refl));
      goes_on = (refl, refl, refl);
    })))

-- a turn that ends for want of memory
pub turn_stops : (node : NodeState) (t : ℕ) → Take (Input.Local (Turn t)) node [] (Some NoMemory) node
turn_stops node t = inr (refl, refl, refl)

agent_turn : TurnOf defs (running (node_of 1 [])) (cut_turn ++ (Event.Keeps plan ∷ none_ended ∷ [])) (Some NoMemory)
    (running_with (node_of 1 (plan ∷ [])) heard_mail None)
agent_turn = record {
  reading = 100;
  rest = Event.Comes (arrival.Bytes 0 (frame_bytes mail)) ∷ Event.Keeps plan ∷ none_ended ∷ [];
  split = refl;
  acts =
      inl (record {
        front = Event.Comes (arrival.Bytes 0 (frame_bytes mail)) ∷ Event.Keeps plan ∷ [];
        back = none_ended ∷ [];
        middle = running_with (node_of 1 (plan ∷ [])) heard_mail None;
        split = refl;
        begins =
            inl (record {
              arrived = arrival.Bytes 0 (frame_bytes mail);
              rest = Event.Keeps plan ∷ [];
              there = λ q. cc;
              split = refl;
              arrives = hears;
            });
        goes_on =
            behind_arrival (running_with (node_of 1 (plan ∷ [])) heard_mail None) 100 [] (Some NoMemory) (node_of 1 (plan ∷ []))
            no_probe_mailed no_advice_mailed (turn_stops (node_of 1 (plan ∷ [])) 100);
      });
}
  where
    hears : Arrive defs (arrival.Bytes 0 (frame_bytes mail)) (running (node_of 1 [])) (Event.Keeps plan ∷ []) None
        (running_with (node_of 1 (plan ∷ [])) heard_mail None)
    hears =
        inl (
          mail ∷ [],
          None,
          record { whole = are_one mail mail_frame; wrong = good_one mail mail_frame },
          inl (record {
            front = [];
            back = Event.Keeps plan ∷ [];
            middle = running_with (node_of 1 []) heard_mail None;
            split = refl;
            begins = (refl, refl, refl);
            goes_on = record { acts = reads_mail; heard_ = refl; asked_ = refl };
          }),
        )

agent_runs : Run defs 1 (running (node_of 1 [])) (cut_turn ++ (Event.Keeps plan ∷ none_ended ∷ [])) (Some NoMemory)
    (running_with (node_of 1 (plan ∷ [])) heard_mail None)
agent_runs = inr (record { why = NoMemory; for_that_cause = refl; ends = agent_turn })

-- it stops while the plan is kept, and its disk has it
pub agent_lives : IsLife defs 1 [] cut_turn (Some plan)
agent_lives = record {
  start = node_of 1 [];
  begun = begun 1 [];
  turns = 1;
  rest = Event.Keeps plan ∷ none_ended ∷ [];
  end = Some NoMemory;
  new = running_with (node_of 1 (plan ∷ [])) heard_mail None;
  runs = agent_runs;
  left_ = inl (Event.Keeps plan, none_ended ∷ [], refl, refl);
}

-- ---- behind the restart

restarted_turn : TurnOf defs (running (node_of 1 (plan ∷ []))) later_turn (Some NoMemory) (running (node_of 1 (plan ∷ [])))
restarted_turn = record {
  reading = 200;
  rest = Event.Comes arrival.Nothing ∷ none_ended ∷ [];
  split = refl;
  acts =
      inl (record {
        front = Event.Comes arrival.Nothing ∷ [];
        back = none_ended ∷ [];
        middle = running (node_of 1 (plan ∷ []));
        split = refl;
        begins =
            inl (record {
              arrived = arrival.Nothing;
              rest = [];
              there = λ q. cc;
              split = refl;
              arrives = (refl, refl, refl);
            });
        goes_on =
            behind_arrival (running (node_of 1 (plan ∷ []))) 200 [] (Some NoMemory) (node_of 1 (plan ∷ [])) no_probe_mailed
            no_advice_mailed (turn_stops (node_of 1 (plan ∷ [])) 200);
      });
}

pub restarted_lives : IsLife defs 1 (plan ∷ []) later_turn None
restarted_lives = record {
  start = node_of 1 (plan ∷ []);
  begun = begun 1 (plan ∷ []);
  turns = 1;
  rest = [];
  end = Some NoMemory;
  new = running (node_of 1 (plan ∷ []));
  runs = inr (record { why = NoMemory; for_that_cause = refl; ends = restarted_turn });
  left_ = tt;
}
